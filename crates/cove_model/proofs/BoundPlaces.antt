-- Where vCPUs are bound, under changes of one of them and of all.
use Rattle.std.proofs.Common.{◌≡◌, ℕ, map, List, Option, Some, None, option_map, unwrap_or, refl, sym, ap, ◌∙◌, ⊎_elim}
use Rattle.std.proofs.lemmas.Bool.{cases_eq}
use Rattle.cove_model.proofs.Changes.{place_among, place_at}
use Rattle.cove_model.proofs.KeyedLemmas.{at_alter_other, at_alter_same, at_map}
use Rattle.cove_model.specs.Machine.{alter, at, bound_file_in, new_cpu, on_cpu, Cpu, Tvm, new_tvm}

module _ (how : Cpu → Cpu) (numbers : (cpu : Cpu) → (how cpu).number ≡ cpu.number) (places : (cpu : Cpu) → bound_file_in (how cpu).binding ≡ bound_file_in cpu.binding) where
  changed : (w : ℕ) (o : Option Cpu) → bound_file_in (unwrap_or (option_map how o) (new_cpu w)).binding ≡ bound_file_in (unwrap_or o (new_cpu w)).binding
  changed w None = refl
  changed w (Some cpu) = places cpu

  -- all vCPUs are changed, but not where they are bound
  pub place_mapped : (w : ℕ) (cs : List Cpu) → place_at (map how cs) w ≡ place_at cs w
  place_mapped w cs = ap (λ o. bound_file_in (unwrap_or o (new_cpu w)).binding) (at_map (λ (c : Cpu). c.number) how numbers w cs) ∙ changed w (at (λ (c : Cpu). c.number) w cs)

  -- one is
  pub place_altered : (v w : ℕ) (cs : List Cpu) → place_at (alter (λ c. c.number) v how cs) w ≡ place_at cs w
  place_altered v w cs = ⊎_elim
      (λ is. ap (λ k. place_at (alter (λ (c : Cpu). c.number) k how cs) w) (sym is)
      ∙ ap (λ o. bound_file_in (unwrap_or o (new_cpu w)).binding) (at_alter_same (λ (c : Cpu). c.number) w how numbers cs) ∙ changed w (at (λ (c : Cpu). c.number) w cs))
      (λ ne. ap (λ o. bound_file_in (unwrap_or o (new_cpu w)).binding) (at_alter_other (λ (c : Cpu). c.number) w v how numbers ne cs))
      (cases_eq w v)

-- one TVM is changed, but not where its vCPUs are bound
pub places_kept : (t : ℕ) (how : Tvm → Tvm) → ((tvm : Tvm) → (how tvm).number ≡ tvm.number) → (xs : List Tvm)
    → ((tvm : Tvm) (w : ℕ) → at (λ (k : Tvm). k.number) t xs ≡ Some tvm → place_at (how tvm).cpus w ≡ place_at tvm.cpus w)
    → (u w : ℕ) → place_among (alter (λ k. k.number) t how xs) u w ≡ place_among xs u w
places_kept t how numbers xs each u w = ⊎_elim
    (λ is. ap (λ k. place_among (alter (λ (x : Tvm). x.number) t how xs) k w) is ∙ here ∙ ap (λ k. place_among xs k w) (sym is))
    (λ ne. ap (λ o. place_at (unwrap_or o (new_tvm u)).cpus w) (at_alter_other (λ (k : Tvm). k.number) u t how numbers ne xs))
    (cases_eq u t)
  where
    go : (o : Option Tvm) → at (λ (k : Tvm). k.number) t xs ≡ o → place_at (unwrap_or (option_map how o) (new_tvm t)).cpus w ≡ place_at (unwrap_or o (new_tvm t)).cpus w
    go None e = refl
    go (Some tvm) e = each tvm w e

    here : place_among (alter (λ k. k.number) t how xs) t w ≡ place_among xs t w
    here = ap (λ o. place_at (unwrap_or o (new_tvm t)).cpus w) (at_alter_same (λ (k : Tvm). k.number) t how numbers xs) ∙ go (at (λ (k : Tvm). k.number) t xs) refl

pub places_altered : (t v : ℕ) (how : Cpu → Cpu) → ((cpu : Cpu) → (how cpu).number ≡ cpu.number) → ((cpu : Cpu) → bound_file_in (how cpu).binding ≡ bound_file_in cpu.binding)
    → (xs : List Tvm) (u w : ℕ) → place_among (alter (λ k. k.number) t (on_cpu v how) xs) u w ≡ place_among xs u w
places_altered t v how numbers places xs u w = places_kept t (on_cpu v how) (λ tvm. refl) xs (λ tvm x live. place_altered how numbers places v x tvm.cpus) u w
