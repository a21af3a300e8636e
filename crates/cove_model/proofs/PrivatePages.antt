-- A TVM's own page is not the host's.
use Rattle.std.proofs.Common.{◌≡◌, ℕ, List, Some, None, ap, subst}
use Rattle.cove_model.specs.Machine.{ScriptValue, Entry, page_at, after, mapping_of, IsBacked, IsSoundMapping, IsSoundTvm, find_tvm, harts_inside, Mapping, OwnPage, Tvm}
use Rattle.cove_model.specs.HostMemory.{seen_words}
use Rattle.cove_model.proofs.Histories.{sound}
use Rattle.cove_model.proofs.Lists.{all_at}

pub own_unseen : (script : ScriptValue) (H : List Entry) (tvm : Tvm) (m : Mapping) (t g page : ℕ) (words : List ℕ)
    → find_tvm (after script H) t ≡ Some tvm → mapping_of tvm g ≡ Some m → m.backing ≡ OwnPage page words
    → seen_words (page_at (after script H).pages page) ≡ None
own_unseen script H tvm m t g page words live found backing =
    let S = after script H in
    let all = all_at (IsSoundTvm S) (λ (k : Tvm). k.number) t S.tvms tvm live (sound script H).tvms_sound in
    let here = all_at (IsSoundMapping S.pages (harts_inside S tvm.number) tvm.number) (λ (k : Mapping). k.guest) g tvm.mappings m found all in
    let backed : IsBacked S.pages tvm.number m.guest (OwnPage page words) = subst (IsBacked S.pages tvm.number m.guest) backing here.backed in
    ap seen_words backed.0
