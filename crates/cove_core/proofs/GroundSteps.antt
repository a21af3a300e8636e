-- What an ended line, the count and a store leave standing of words and ground.
use Rattle.std.proofs.Common.{◌≡◌, ◌≢◌, ℕ, ◌<◌, List, Option, Some, None, get_or, set, length, refl, sym, ◌∙◌, arith, get_or-set_other, length-set}
use Rattle.cove_model.specs.Machine.{count_word, Seat, State, page_of, word_place, end_line, host_done, line_ended, FramesStand}
use Rattle.cove_core.proofs.Events.{store_frames, store_stands}
use Rattle.cove_core.proofs.Performing.{MayReach}
use Rattle.cove_core.specs.Reached.{frames_by, store_event as stored_event}
use Rattle.cove_core.specs.declared.accesses.Reach.{Reach}
use Rattle.cove_core.specs.declared.accesses.Reach.TheVariants as reach
use Rattle.cove_mem.specs.Frames.{with_word}
use Rattle.cove_model.proofs.BesideProofs.{count_leaves_words}
use Rattle.cove_model.specs.WordLaws.{Stand}
use Rattle.cove_tvm.proofs.KeptGround.{owners_change_stands}
use Rattle.cove_tvm.specs.GroundLaws.{KeepsTvms}
use Rattle.cove_tvm.specs.Leaves.{LeavesEveryTvm}
use Rattle.cove_tvm.specs.Stands.{Stands}
use Rattle.cove_tvm.specs.declared.ground.Ground.{Ground}

-- the ground with other frames
abbrev pub with_memory : Ground → (frames : List (List ℕ)) → Ground
with_memory G frames = record G { memory = frames }

-- the same words leave every TVM
same_leaves : (pages harts : ℕ) (words : List ℕ) → LeavesEveryTvm pages harts words words
same_leaves pages harts words = record {
  size = refl;
  page = λ p t role on. (λ gives. gives, λ gives. gives);
  tables = λ place low high. refl;
  rest = λ place low high. refl;
}

-- ---- an ended line

stand_ended : (pages harts h : ℕ) (words : List ℕ) (S : State) → Stand pages harts words S → Stand pages harts words (end_line h S)
stand_ended pages harts h words S old = record {
  stands = record {
    size = old.stands.size;
    owners = record {
      page_count = old.stands.owners.page_count;
      hart_count = old.stands.owners.hart_count;
      page = old.stands.owners.page;
      unanswered = old.stands.owners.unanswered;
    };
    tables = old.stands.tables;
    unused = old.stands.unused;
    seats = old.stands.seats;
  };
  within = old.within;
}

frames_ended : (frames : List (List ℕ)) (h : ℕ) (S : State) → FramesStand frames S → FramesStand frames (end_line h S)
frames_ended frames h S old = record { count = old.count; frame = old.frame }

-- whether a line ended is no matter of words and ground
pub line_stands : (words : List ℕ) (G : Ground) (h : ℕ) (o : Option Seat) (S : State) → Stands words G S → Stands words G (line_ended h o S)
line_stands words G h None S old =
    owners_change_stands words words G G.memory S (end_line h S) old
    (record { tvms = refl; made = refl; seats = refl; kicked = refl; key = refl; files = refl })
    (same_leaves G.pages G.harts words)
    (stand_ended G.pages G.harts h words S old.words_stand)
    (frames_ended G.memory h S old.frames)
line_stands words G h (Some seat) S old = old

-- ---- the count

count_leaves : (pages harts : ℕ) (words : List ℕ) (count : ℕ) → LeavesEveryTvm pages harts words (set words (count_word pages harts) count)
count_leaves pages harts words count =
    let at = count_word pages harts in
    let kept : (place : ℕ) → place ≢ at → get_or (set words at count) place 0 ≡ get_or words place 0 = λ place ne. get_or-set_other words at place count 0 ne in
    record {
      size = length-set words at count;
      page = λ p t role on.
          let apart : p ≢ at = omega arith in
          (λ gives. sym (kept p apart) ∙ gives, λ gives. kept p apart ∙ gives);
      tables = λ place low high. kept place (omega arith);
      rest = λ place low high. kept place (omega arith);
    }

pub count_stands : (words : List ℕ) (G : Ground) (count : ℕ) (S : State) → Stands words G S → Stands (set words (count_word G.pages G.harts) count) G S
count_stands words G count S old =
    owners_change_stands words (set words (count_word G.pages G.harts) count) G G.memory S S old
    (record { tvms = refl; made = refl; seats = refl; kicked = refl; key = refl; files = refl })
    (count_leaves G.pages G.harts words count)
    (count_leaves_words G.pages G.harts words S count old.words_stand)
    old.frames

-- ---- a store of a hart

store_keeps : (S : State) (h addr value : ℕ) (r : Reach) → KeepsTvms S (host_done S h (stored_event addr value r))
store_keeps S h addr value reach.Held = record { tvms = refl; made = refl; seats = refl; kicked = refl; key = refl; files = refl }
store_keeps S h addr value _ = record { tvms = refl; made = refl; seats = refl; kicked = refl; key = refl; files = refl }

pub stored_stands : (words : List ℕ) (G : Ground) (S : State) (h addr value : ℕ) (r : Reach)
    → MayReach S h (page_of addr) r → page_of addr < length G.memory → Stands words G S
    → Stands words (with_memory G (frames_by r G.memory (with_word G.memory (page_of addr) (word_place addr) value))) (host_done S h (stored_event addr value r))
stored_stands words G S h addr value r may below old =
    owners_change_stands words words G (frames_by r G.memory (with_word G.memory (page_of addr) (word_place addr) value)) S (host_done S h (stored_event addr value r)) old
    (store_keeps S h addr value r)
    (same_leaves G.pages G.harts words)
    (store_stands G.pages G.harts words S h addr value r old.words_stand)
    (store_frames G.memory S h addr value r may below old.frames)
