-- What the example of a TVM that is destroyed shows.
use Rattle.std.proofs.Common.{◌≡◌, ◌≢◌, ℕ, zero, suc, ◌-◌, ◌<◌, ◌≤◌, List, ◌∷◌, ◌++◌, get_or, replicate, set, refl, sym, ap, ◌∙◌, inl, inr, arith}
use Rattle.std.proofs.lemmas.List.{get_or_append_left, length-replicate}
use Rattle.cove_model.specs.Machine.{given, host, released, all_words, epoch_word, table_word, Role, Table, IsTableOf}
use Rattle.cove_base.specs.TableWords.{shared_leaf}
use Rattle.cove_model.proofs.LeafWords.{given_host, given_number}
use Rattle.cove_model.proofs.Lists.{replicate_zero}
use Rattle.cove_model.specs.TableLaw.{shared_leaves}
use Rattle.cove_tvm.specs.DestroyedTvms.{Destroys}
use Rattle.cove_lives.specs.RunExamples.{three_pages, two_sharing}

abbrev gone : List ℕ
gone = three_pages released (given 2 Table) (host 1) 0 (shared_leaf 2)

-- behind the first table word every word is as it was
same_behind : (place : ℕ) → 4 ≤ place → get_or gone place 0 ≡ get_or two_sharing place 0
same_behind zero past = absurd (omega arith)
same_behind (suc zero) past = absurd (omega arith)
same_behind (suc (suc zero)) past = absurd (omega arith)
same_behind (suc (suc (suc zero))) past = absurd (omega arith)
same_behind (suc (suc (suc (suc place)))) past = refl

-- page 0 is the one table of TVM 1
only_table : (p : ℕ) → p < 3 → IsTableOf two_sharing 1 p → p ≡ 0
only_table zero low own = refl
only_table (suc zero) low (inl is) = absurd (omega arith)
only_table (suc zero) low (inr is) = absurd (omega arith)
only_table (suc (suc zero)) low (inl is) = absurd (omega arith)
only_table (suc (suc zero)) low (inr is) = absurd (omega arith)
only_table (suc (suc (suc p))) low own = absurd (omega arith)

rest_zero : (k : ℕ) → k < 511 → get_or (replicate 511 0 ++ shared_leaf 2 ∷ replicate (all_words 3 1 - 516) 0) k 0 ≡ 0
rest_zero k low =
    get_or_append_left (replicate 511 0) (shared_leaf 2 ∷ replicate (all_words 3 1 - 516) 0) 0 k (omega (arith, length-replicate {A = ℕ} 511 0))
    ∙ replicate_zero 511 k

cleared : (place : ℕ) → 3 ≤ place → place < 515 → get_or gone place 0 ≡ 0
cleared zero low high = absurd (omega arith)
cleared (suc zero) low high = absurd (omega arith)
cleared (suc (suc zero)) low high = absurd (omega arith)
cleared (suc (suc (suc zero))) low high = refl
cleared (suc (suc (suc (suc k)))) low high = rest_zero k (omega arith)

own : (p : ℕ) (role : Role) → p < 3 → get_or two_sharing p 0 ≡ given 1 role → get_or gone p 0 ≡ released
own zero role low is = refl
own (suc zero) role low is = let same = given_number 2 1 Table role is in absurd (omega arith)
own (suc (suc zero)) role low is = absurd (given_host 1 2 role (sym is))
own (suc (suc (suc p))) role low is = absurd (omega arith)

left : shared_leaves 3 gone 2 ≡ 1
left = refl

hosts : (p maps : ℕ) → p < 3 → get_or two_sharing p 0 ≡ host maps → get_or gone p 0 ≡ host (shared_leaves 3 gone p)
hosts zero maps low is = absurd (given_host 1 maps Table is)
hosts (suc zero) maps low is = absurd (given_host 2 maps Table is)
hosts (suc (suc zero)) maps low is = ap host (sym left)
hosts (suc (suc (suc p))) maps low is = absurd (omega arith)

rest : (p : ℕ) → p < 3 → ((role : Role) → get_or two_sharing p 0 ≢ given 1 role) → ((maps : ℕ) → get_or two_sharing p 0 ≢ host maps)
    → get_or gone p 0 ≡ get_or two_sharing p 0
rest zero low not_own not_host = absurd (not_own Table refl)
rest (suc zero) low not_own not_host = refl
rest (suc (suc zero)) low not_own not_host = absurd (not_host 2 refl)
rest (suc (suc (suc p))) low not_own not_host = absurd (omega arith)

first_page : (p : ℕ) → (IsTableOf two_sharing 1 p → ⊥) → 1 ≤ p
first_page zero other = absurd (other (inr refl))
first_page (suc p) other = omega arith

pub destroyed : Destroys 3 two_sharing (three_pages released (given 2 Table) (host 1) 0 (shared_leaf 2)) 1
destroyed = record {
  size = refl;
  tables = λ p i low small of. let first = only_table p low of in cleared (table_word 3 p i) (omega arith) (omega arith);
  others = λ p i low small other. let later = first_page p other in same_behind (table_word 3 p i) (omega arith);
  own = own;
  hosts = hosts;
  rest = rest;
  behind = λ place past. same_behind place (omega arith);
}

pub page_left : Destroys 3 two_sharing (three_pages (given 1 Table) (given 2 Table) (host 1) 0 (shared_leaf 2)) 1 → ⊥
page_left destroys = let is : given 1 Table ≡ released = destroys.own 0 Table (omega arith) refl in omega arith

pub leaf_left : Destroys 3 two_sharing (three_pages released (given 2 Table) (host 2) (shared_leaf 2) (shared_leaf 2)) 1 → ⊥
leaf_left destroys = let is : shared_leaf 2 ≡ 0 = destroys.tables 0 0 (omega arith) (omega arith) (inr refl) in omega arith

pub count_left : Destroys 3 two_sharing (three_pages released (given 2 Table) (host 2) 0 (shared_leaf 2)) 1 → ⊥
count_left destroys =
    let leaves : shared_leaves 3 (three_pages released (given 2 Table) (host 2) 0 (shared_leaf 2)) 2 ≡ 1 = refl in
    let is : host 2 ≡ host (shared_leaves 3 (three_pages released (given 2 Table) (host 2) 0 (shared_leaf 2)) 2) = destroys.hosts 2 2 (omega arith) refl in
    omega (arith, is, leaves)

not_given : (role : Role) → given 2 Table ≢ given 1 role
not_given role is = let same = given_number 2 1 Table role is in omega arith

pub other_page : Destroys 3 two_sharing (three_pages released released (host 1) 0 (shared_leaf 2)) 1 → ⊥
other_page destroys =
    let is : released ≡ given 2 Table = destroys.rest 1 (omega arith) not_given (λ maps e. given_host 2 maps Table e) in
    omega arith

pub other_leaf : Destroys 3 two_sharing (three_pages released (given 2 Table) (host 0) 0 0) 1 → ⊥
other_leaf destroys =
    let is : 0 ≡ shared_leaf 2 = destroys.others 1 0 (omega arith) (omega arith) (λ of. let first = only_table 1 (omega arith) of in omega arith) in
    omega arith

pub fence : Destroys 3 two_sharing (set (three_pages released (given 2 Table) (host 1) 0 (shared_leaf 2)) (epoch_word 3) 1) 1 → ⊥
fence destroys = let is : ◌≡◌ {A = ℕ} 1 0 = destroys.behind (epoch_word 3) (omega arith) in omega arith
