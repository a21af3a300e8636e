use Rattle.std.proofs.Common.{◌≡◌, ℕ, Bool, true, false, cond, eqb, true≢false, [], Some, None, unwrap_or, refl, sym, ◌∙◌, arith}
use Rattle.std.proofs.lemmas.Option.{none-some}
use Rattle.cove_model.proofs.BoundApart.{bound_apart_call}
use Rattle.cove_model.proofs.guest_examples.worked_bound_files.Goals as goal
use Rattle.cove_model.specs.Machine.{Bind, rule, AreBoundApart, AreDistinct, BoundFile, cpus_of, bound_file_in, bound_file_of, new_cpu, Tvm, new_tvm}
use Rattle.cove_model.proofs.Changes.{place_at}
use Rattle.cove_model.specs.GuestExamples.{first_cpu, tenant, unbound}

abbrev built : Tvm
built = record tenant { runnable = false; mappings = [] }

-- nothing is bound before
nowhere : (t v : ℕ) → bound_file_of unbound t v ≡ None
nowhere t v = go (eqb 1 t)
  where
    cpu : (b c : Bool) → bound_file_in (unwrap_or (cond b (Some first_cpu) (cond c (Some (new_cpu 1)) None)) (new_cpu v)).binding ≡ None
    cpu true c = refl
    cpu false true = refl
    cpu false false = refl

    go : (b : Bool) → place_at (unwrap_or (cond b (Some built) None) (new_tvm t)).cpus v ≡ None
    go true = cpu (eqb 0 v) (eqb 1 v)
    go false = refl

numbers_differ : (t : ℕ) → AreDistinct (cpus_of (unwrap_or (cond (eqb 1 t) (Some built) None) (new_tvm t)))
numbers_differ t = go (eqb 1 t)
  where
    go : (b : Bool) → AreDistinct (cpus_of (unwrap_or (cond b (Some built) None) (new_tvm t)))
    go true = (refl, (refl, tt))
    go false = tt

before : AreBoundApart unbound
before = record { cpus = numbers_differ; files = λ t u v w p one two. absurd (none-some p (sym (nowhere t v) ∙ one)) }

pub returns-clause-apart : goal.returns-clause-apart
returns-clause-apart c =
    let first = bound_apart_call unbound 0 (Bind 1 0 1 1) (refl, (refl, (refl, (refl, (refl, (refl, (refl, tt))))))) before in
    bound_apart_call (rule unbound 0 (Bind 1 0 1 1)).outcome.state 0 (Bind 1 1 1 2) (refl, (refl, (refl, (refl, (refl, (refl, (refl, tt))))))) first

pub returns-clause-one_file : goal.returns-clause-one_file
returns-clause-one_file c = λ apart.
    let place : BoundFile = record { hart = 1; file = 1 } in
    let same : ◌≡◌ {A = ℕ} 0 1 = (apart.files 1 1 0 1 place refl refl).1 in
    absurd (omega arith)

pub returns-clause-one_number : goal.returns-clause-one_number
returns-clause-one_number c = λ apart. true≢false (apart.cpus 1).0
