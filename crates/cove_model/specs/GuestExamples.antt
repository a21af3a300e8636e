-- States with a TVM to read: what the definitions give of them is proved by computing it.
use Rattle.std.specs.Prelude.{ℕ, true, false, [], ◌∷◌, ◌++◌, replicate, Option, Some, None}
use Rattle.std.specs.Option.{option_map}
use Rattle.cove_model.specs.Mappings.{mapping_of}
use Rattle.cove_model.specs.Answers.{refusal_by}
use Rattle.cove_model.specs.Examples.{board}
use Rattle.cove_model.specs.HostCalls.{rule}
use Rattle.cove_model.specs.Owners.{Host, Free, Given, AsData, zeros}
use Rattle.cove_model.specs.States.{State, new_cpu, opening, seated, tvm_at}
use Rattle.cove_model.specs.Tvms.{Backing, OwnPage, HostPage, Standing, Present, Blocked, Mapping, NotBegun, Cpu, Tvm, new_tvm}
use Rattle.cove_model.specs.Types.{HostCall, Reply}

-- a mapping of a guest page
abbrev pub mapped : (guest : ℕ) → Backing → Standing → Mapping
mapped guest backing standing = record { guest = guest; backing = backing; standing = standing }

-- a vCPU at the first guest page of its TVM, with three instructions left
abbrev pub first_cpu : Cpu
first_cpu = record (new_cpu 0) { pc = 65536; fuel = 3 }

-- TVM 1, which runs, with the guest pages 16 to 20 in one region: 16 is mapped to its page 4; 17 to its page 5, blocked with
-- no fence since; 18 to its page 6, blocked, fenced and shared since; 19 is shared and mapped to page 7 of the host's; 20 is not
-- mapped
abbrev pub tenant : Tvm
tenant = record (new_tvm 1) {
  runnable = true;
  regions = record { first = 16; count = 5 } ∷ [];
  shared = 18 ∷ 19 ∷ [];
  tables = 8 ∷ 9 ∷ [];
  prefixes = λ level. 0 ∷ [];
  mappings = mapped 16 (OwnPage 4 zeros) Present ∷ mapped 17 (OwnPage 5 zeros) (Blocked (0 ∷ []) None)
      ∷ mapped 18 (OwnPage 6 zeros) (Blocked [] (Some [])) ∷ mapped 19 (HostPage 7) Present ∷ [];
  cpus = first_cpu ∷ new_cpu 1 ∷ [];
}

-- a board of two harts and twelve pages, of which hart 0 runs the first vCPU of that TVM; page 10 is free
abbrev pub running : State
running = record (opening (board 2 [] [] [])) {
  pages = replicate 4 (Host zeros) ++ Given 1 (AsData 16) ∷ Given 1 (AsData 17) ∷ Given 1 (AsData 18) ∷ replicate 3 (Host zeros)
      ++ Free ∷ Host zeros ∷ [];
  tvms = tenant ∷ [];
  made = 1;
  seats = seated 0 (Some (record { tvm = 1; cpu = 0 })) (λ hart. None);
}

-- what the rule of a call refuses it with, whether it is built or not
abbrev pub refused_by : State → (hart : ℕ) → HostCall → Option Reply
refused_by S h call = refusal_by (rule S h call)

-- how a guest page of the TVM stands after a call of hart 1
abbrev pub standing_of : HostCall → (guest : ℕ) → Option Standing
standing_of call guest =
    option_map (λ mapping. mapping.standing) (mapping_of (tvm_at (rule running 1 call).outcome.state 1) guest)

-- the same TVM while it is built, with no hart inside
abbrev pub building : State
building = record running {
  tvms = record tenant { runnable = false; mappings = [] } ∷ [];
  seats = λ hart. None;
}

-- while it is built, on a board of two files a hart: its first vCPU bound to a file of hart 1, and a vCPU of a number to another
abbrev pub unbound : State
unbound = record building { files = 2 }

abbrev pub bound_cpus : (number file other : ℕ) → State
bound_cpus number file other = record unbound {
  tvms = record tenant {
    runnable = false;
    mappings = [];
    cpus = record first_cpu { binding = Some (record { hart = 1; file = file; unbinding = NotBegun }) }
        ∷ record (new_cpu number) { binding = Some (record { hart = 1; file = other; unbinding = NotBegun }) } ∷ [];
  } ∷ [];
}
