-- What evidence that was made is read as.
use Rattle.std.proofs.Common.{◌≡◌, ◌≢◌, ◌<◌, ℕ, ◌+◌, List, ◌++◌, get_or, take, length, map, refl, sym, ap, ◌∙◌, arith}
use Rattle.std.specs.Prelude.{replicate}
use Rattle.std.specs.List.{concat}
use Rattle.std.proofs.lemmas.List.{append_assoc, append_cancel_left}
use Rattle.cove_base.specs.Evidence.{evidence, evidence_body, evidence_magic}
use Rattle.cove_base.specs.Hmac.{hmac384}
use Rattle.cove_evidence.specs.declared.evidence.EvidenceFault.{EvidenceFault}
use Rattle.cove_evidence.specs.declared.evidence.EvidenceFault.TheVariants.{Short, Long, BadMagic}
use Rattle.cove_evidence.proofs.PieceLemmas.{parts_are_equal, pieces_are_equal}

-- evidence begins with the magic
pub take-evidence : (version : ℕ) (registers : List (List ℕ)) (nonce key : List ℕ) → take 8 (evidence version registers nonce key) ≡ evidence_magic version
unfolding evidence
take-evidence version registers nonce key = refl

-- the magic tells the version
same_version : (version other : ℕ) → evidence_magic version ≡ evidence_magic other → other ≡ version
same_version version other e = let digits : 48 + version ≡ 48 + other = ap (λ xs. get_or xs 7 0) e in omega arith

-- evidence has one reading, where registers and nonces have their lengths
pub one_reading : (version version' : ℕ) (registers others : List (List ℕ)) (nonce other key mac : List ℕ)
    → map length registers ≡ replicate 5 48 → map length others ≡ replicate 5 48
    → length nonce ≡ 64 → length other ≡ 64
    → evidence version registers nonce key ≡ evidence_body version' others other ++ mac
    → (version' ≡ version) × (others ≡ registers) × (other ≡ nonce)
unfolding evidence
one_reading version version' registers others nonce other key mac five five' long long' e = (same, sym joined.0, sym tails.0)
  where
    same : version' ≡ version
    same = same_version version version' (ap (take 8) e)

    made : List ℕ
    made = hmac384 key (evidence_body version registers nonce)

    cancelled : (concat registers ++ nonce) ++ made ≡ (concat others ++ other) ++ mac
    cancelled = append_cancel_left (evidence_magic version) ((concat registers ++ nonce) ++ made) ((concat others ++ other) ++ mac)
        (e ∙ ap (λ v. evidence_body v others other ++ mac) same)

    body : concat registers ++ (nonce ++ made) ≡ concat others ++ (other ++ mac)
    body = sym (append_assoc (concat registers) nonce made) ∙ cancelled ∙ append_assoc (concat others) other mac

    joined : (registers ≡ others) × (nonce ++ made ≡ other ++ mac)
    joined = pieces_are_equal registers others (nonce ++ made) (other ++ mac) (five ∙ sym five') body

    tails : (nonce ≡ other) × (made ≡ mac)
    tails = parts_are_equal nonce other made mac (long ∙ sym long') joined.1

-- bytes of the right length and magic have no fault
pub no_fault : (bytes : List ℕ) (fault : EvidenceFault)
    → length bytes ≡ 360 → ((take 8 bytes ≢ evidence_magic 1) → (take 8 bytes ≢ evidence_magic 2) → ⊥)
    → (fault ≡ Short → length bytes < 360) → (fault ≡ Long → 360 < length bytes)
    → (fault ≡ BadMagic → (take 8 bytes ≢ evidence_magic 1) × (take 8 bytes ≢ evidence_magic 2)) → ⊥
no_fault bytes Short whole magic short long bad = let h = short refl in omega arith
no_fault bytes Long whole magic short long bad = let h = long refl in omega arith
no_fault bytes BadMagic whole magic short long bad = let none = bad refl in magic none.0 none.1
