use Rattle.std.proofs.Common.{◌≡◌, ◌+◌, ◌++◌, ◌∙◌, ℕ, zero, suc, [], ◌∷◌, length, length-append, add-one, append_assoc, ap, sym, arith}
use Rattle.std.proofs.lemmas.List.FromFn.{length-range_with_len}
use Rattle.std.specs.List.{range_with_len}
use Rattle.cove_host.proofs.table_pages.add_all.Goals as goal

range_last : (a n : ℕ) → range_with_len a (suc n) ≡ range_with_len a n ++ (a + n) ∷ []
range_last a zero = let same : a ≡ a + 0 = omega arith in ap (λ k. k ∷ []) same
range_last a (suc n) =
    let same : a + 1 + n ≡ a + suc n = omega arith in
    ap (λ ks. a ∷ ks) (range_last (a + 1) n ∙ ap (λ k. range_with_len (a + 1) n ++ k ∷ []) same)

pub add-requires : goal.add-requires
add-requires c =
    let many = ap length c.loop-i.invariant.pages in
    let split = length-append c.args.pool.now.pages (range_with_len c.args.first.0 c.loop-i.i) in
    let long = length-range_with_len c.args.first.0 c.loop-i.i in
    omega (arith, c.loop-i.invariant.room, c.requires.room)

pub loop-i-preserved : goal.loop-i-preserved
loop-i-preserved c =
    let before = c.args.pool.now.pages in
    let first = c.args.first.0 in
    let i = c.loop-i.i in
    record {
      pages =
          c.add.ensures.pages
          ∙ ap (λ ps. ps ++ (first + i) ∷ []) c.loop-i.invariant.pages
          ∙ append_assoc before (range_with_len first i) ((first + i) ∷ [])
          ∙ ap (λ ps. before ++ ps) (sym (ap (range_with_len first) (add-one i) ∙ range_last first i));
      room = c.add.ensures.room ∙ c.loop-i.invariant.room;
    }
