use Rattle.std.proofs.Common.{◌≡◌, ◌≢◌, ◌++◌, take, length, map, sym, ◌∙◌, ap, ⊎_elim}
use Rattle.std.specs.Prelude.{Err, replicate}
use Rattle.std.proofs.lemmas.Result.{IfOk-at_ok}
use Rattle.cove_base.specs.Evidence.{evidence_body, evidence_magic}
use Rattle.cove_evidence.proofs.ReadBackLemmas.{no_fault, one_reading, take-evidence}
use Rattle.cove_evidence.proofs.evidence.read_back.Goals as goal

pub returns-in-Ok : goal.returns-in-Ok
returns-in-Ok c =
    let five : map length c.args.registers.now ≡ replicate 5 48 = ap (map length) (sym c.values.ensures) ∙ c.have_register_lengths.ensures in
    let five' : map length c.in-Ok.e.registers ≡ replicate 5 48 = ap (map length) (sym c.values-in-Ok.ensures) ∙ c.have_register_lengths-in-Ok.ensures in
    let read = IfOk-at_ok (λ e. c.as_slice.result.now ≡ evidence_body e.version e.registers e.nonce ++ e.mac) c.in-Ok.is c.read-found.ensures.ok in
    rw c.in-Ok.is
    (one_reading c.args.version c.in-Ok.e.version c.args.registers.now c.in-Ok.e.registers c.args.nonce.now c.in-Ok.e.nonce c.args.key.now c.in-Ok.e.mac
    five five' c.told-nonce c.has_nonce_length.ensures
    (sym c.sealed-quote.ensures.bytes ∙ sym c.as_slice.ensures.bytes ∙ read))

pub returns-in_default : goal.returns-in_default
returns-in_default c =
    let made = c.as_slice.ensures.bytes ∙ c.sealed-quote.ensures.bytes in
    let magic : take 8 c.as_slice.result.now ≡ evidence_magic c.args.version =
    ap (take 8) made ∙ take-evidence c.args.version c.args.registers.now c.args.nonce.now c.args.key.now in
    let known : (take 8 c.as_slice.result.now ≢ evidence_magic 1) → (take 8 c.as_slice.result.now ≢ evidence_magic 2) → ⊥ =
    λ one two. ⊎_elim (λ is. one (magic ∙ ap evidence_magic is)) (λ is. two (magic ∙ ap evidence_magic is)) c.requires in
    let whole : length c.as_slice.result.now ≡ 360 = ap length c.as_slice.ensures.bytes ∙ c.sealed-quote.ensures.whole in
    absurd (no_fault c.as_slice.result.now c.in_default.field-0 whole known
    (λ e. c.read-found.ensures.short.0 (c.in_default.is ∙ ap Err e))
    (λ e. c.read-found.ensures.long.0 (c.in_default.is ∙ ap Err e))
    (λ e. let bad = c.read-found.ensures.bad_magic.0 (c.in_default.is ∙ ap Err e) in (bad.1, bad.2)))
