-- The machine's definitions and the words that it is seen in, handed on so that one import brings a proof all that it speaks of.
pub use Rattle.cove_model.specs.Owners.{AsData, AsRoot, AsState, AsTable, AsVcpu, Converting, Free, Given, Holder, Host, OfTvm, Owner, Purpose, TheHost, TheMonitor, change, converted, every, fence_answered, fenced, has, holder, is_free, is_host, may_use, page_at, reclaimed, settled, without, word_stored, words_of, zeros}
pub use Rattle.cove_model.specs.Tvms.{Backing, Begun, Binding, Blocked, Cpu, HostPage, Mapping, NotBegun, OwnPage, Present, Standing, Tvm, Unbinding, created, new_tvm}
pub use Rattle.cove_model.specs.States.{Seat, State, board_in, byte_after, cpu_at, ended_by, find_cpu, find_tvm, guests_in, harts_below, harts_inside, is_in, is_on, mode_in, new_cpu, on_cpu, on_tvm, opening, opening_byte, opening_words, page_of, runner, seated, shared_pages, shown_page, tvm_at, word_at, word_place}
pub use Rattle.cove_model.specs.Refusals.{Aligned, Check, Count, first_failing, plain}
pub use Rattle.cove_model.specs.Checks.{AllFree, AllHost, CpuNumber, EnoughTables, IsArea, IsBuilding, IsRunnable, Live, NoCpuYet, NoOverlap, NoneShared, RoomForRegion, RoomForTvm, RootAligned, StateApart, Unmapped, WithinMemory, is_at, is_mapped_by}
pub use Rattle.cove_model.specs.HostCalls.{Forgets, ForgetsAll, ForgetsGuests, Keeps, Rule, giving_memory, page_records, page_words_from, rule, started}
pub use Rattle.cove_model.specs.GuestCalls.{evidence_at, guest_rule, guest_word, overwritten, remembered, reworded, with_words, words_in}
pub use Rattle.cove_model.specs.Answers.{effect, is_built, outcome, refusal, refusal_by, reply_by, reply_to, rule_of, state_after, state_after_rule, state_by}
pub use Rattle.cove_model.specs.Keyed.{alter, at, dropped}
pub use Rattle.cove_model.specs.Mappings.{blocked_standing, fenced_standing, fenced_unbinding, is_fenced, is_own, is_present, left_standing, left_tvm, left_unbinding, mapping_of, may_follow, own_mappings, own_words, page_under, rebound, restand, restood, shared_mappings, unblocked_standing, with_mappings}
pub use Rattle.cove_model.specs.GuestPages.{is_among, is_private, is_shared, meets_run, missing_tables, new_ones, new_parts, over_levels, page_run, part_of, pool_size, row_count, tables_in_use}
pub use Rattle.cove_model.specs.Pages.{change_each, freed, given_to, is_data_of, is_given, is_root_of, removed, root_of}
pub use Rattle.cove_model.specs.Deeds.{Asks, Deed, Executes, Fetches, Loads, Stores, Tires, Traps, Waits, csr_deed, deed_of, deed_with, is_woken, next_place, planned}
pub use Rattle.cove_model.specs.Offers.{Behind, NoneEarlier, Nothing, Offer, Single, Touch, access_target, act_event, cpu_of, deed_offer, fault_exit, fetch_target, first_behind, guest_touch, host_target, is_behind, is_earlier, is_found, is_mapped_for, kicked_offer, line_offer, may_succeed, offer, outside_offer, seat_mapping, sought, target_of, unkicked_offer, unless_behind}
pub use Rattle.cove_model.specs.Steps.{Allows, IsStep, Takes, acted, after_event, asked, done, done_at, end_line, guest_done, guest_stored, host_done, left, left_by, line_ended, on_seat, performed, stored_under}
pub use Rattle.cove_model.specs.Histories.{EachEntry, Follows, Legal, after, after_entry, own, told, wanted}
pub use Rattle.cove_model.specs.Translations.{Arrival, Came, Failed, Tlb, Touched, data_address, emptied_by, filled, forgets_at, forgets_by, forgets_inside, forgets_outside, guest_touched, held_after, held_from, holds_target, host_touched, missed, names, nothing_held, pair_of, renewed, tlb, touched, touched_at, where_accepted, with_target, with_touched}
pub use Rattle.cove_model.specs.Cached.{IsCached, IsQuiet, IsQuietAt, IsReached, Reaches, ReachesWhere, WasFound}
pub use Rattle.cove_model.specs.Played.{IsEnded, IsOver, Note, Play, Unwalked, WalkFound, WalkMissed, ended_event, ending, enough, entered, entry_by, entry_turn, noted, played_out, round, rounds, sought_turn, turn, unplayed, walked, walks_first}
pub use Rattle.cove_model.specs.WordsStand.{FencesWithin, FrameStands, FramesStand, FreeStands, GivenStands, IsAnsweredByAll, OwnersStand, PageStands, SeatStands, WaitsFor, WordsStand, answered_in, epoch_in, harts_behind, is_table, maps_of, number_in, role_of, words_at}
pub use Rattle.cove_model.specs.LawfulStores.{AllowsLawful, Answers, AreOwned, Begins, Blocks, ChangesHart, ChangesPage, ChangesTable, Converts, Counts, Enters, FencesTvm, Frees, Gives, HartChange, HasEntered, IsBehindLeaf, IsFreeIn, IsInside, IsLawful, IsLeft, IsRoot, IsTableOf, LeafNames, Leaves, Links, MakesLawful, Maps, PageChange, Removes, Rewrites, TableChange, TakesBack, Unblocks, Unmaps}
pub use Rattle.cove_model.specs.Sound.{IsBacked, IsBoardOf, IsHeldWithin, IsSound, IsSoundMapping, IsSoundPage, IsSoundTvm, IsUsable, LeadsTo, Rises, Within}
pub use Rattle.cove_model.specs.Seated.{IsOn, IsSeated, IsStill}
pub use Rattle.cove_model.specs.Orderly.{AreBoundApart, AreDistinct, BoundFile, IsOrderly, bound_file_in, bound_file_of, cpus_of, guests_of, numbers_of}
pub use Rattle.cove_base.specs.Scripts.{ScriptValue, is_fill, is_line_within, is_script_line, is_within_limits, phases_rise_from}
pub use Rattle.cove_base.specs.HartLines.{lines_of, next_line}
pub use Rattle.cove_base.specs.HartValues.{HartRings, HartValue, Holding, Inside, Way, accessed_page, after_walk, has_walked_to, holding, no_rings, rings_after, rings_find, rings_with, way_of}
pub use Rattle.cove_base.specs.Places.{AnsweredWord, CountWord, EpochWord, HartWord, IsPlace, PageWord, Place, TableWord, TvmWord, all_words, answered_word, count_word, epoch_word, hart_word, page_word, place_of, table_word, tvm_word}
pub use Rattle.cove_base.specs.PageWords.{IsFreeWord, IsHostWord, IsMappedWord, IsPageWord, OfConverting, OfGiven, OfHost, OfReleased, converting, given, host, released, role_number}
pub use Rattle.cove_base.specs.Stores.{AllAllowed, Leads, fills, stored}
pub use Rattle.cove_base.specs.declared.calls.GuestAct.{GuestAct}
pub use Rattle.cove_base.specs.declared.calls.HostCall.{HostCall}
pub use Rattle.cove_base.specs.declared.calls.HostCall.TheVariants.{Bind, Convert, Create, Destroy, Finalize, GlobalFence, Info, Inject, Invalidate, LocalFence, Measured, Reclaim, Region, Remove, Run, Shared, Tables, TvmFence, Unbind, Unbound, Validate, Zero}
pub use Rattle.cove_base.specs.declared.events.Entry.{Entry}
pub use Rattle.cove_base.specs.declared.events.Event.{Event}
pub use Rattle.cove_base.specs.declared.events.How.{How}
pub use Rattle.cove_base.specs.declared.events.How.TheVariants.{Hit, Walk}
pub use Rattle.cove_base.specs.declared.scripts.Fill.{Fill}
pub use Rattle.cove_base.specs.declared.scripts.Line.{Line}
pub use Rattle.cove_base.specs.declared.scripts.ScriptLine.{ScriptLine}
pub use Rattle.cove_base.specs.declared.statuses.Reply.{Reply}
pub use Rattle.cove_base.specs.declared.statuses.Status.{Status}
pub use Rattle.cove_base.specs.declared.statuses.Status.TheVariants.{AlreadyAvailable, AlreadyStarted, Denied, InvalidAddress, InvalidParam, NotSupported, Success}
pub use Rattle.cove_base.specs.declared.walks.Target.{Target}
pub use Rattle.cove_base.specs.Modes.{guest_limit, leaves_of, mode_of}
pub use Rattle.cove_base.specs.declared.modes.Mode.{Mode}
pub use Rattle.cove_base.specs.declared.modes.Mode.TheVariants.{Sv39x4, Sv48x4}
pub use Rattle.cove_base.specs.declared.numbers.Role.{Role}
pub use Rattle.cove_base.specs.declared.numbers.Role.TheVariants.{Data, Root, Table, Vcpu}
pub use Rattle.cove_base.specs.declared.numbers.Page.{Page}
pub use Rattle.cove_base.specs.declared.limits.TheConstants.{ENTRY_LIMIT, HART_LIMIT, KEY_LIMIT, PAGE_LIMIT, PHASE_LIMIT, REGION_LIMIT, SCRIPT_LIMIT, SHARED_RUN_LIMIT, TVM_LIMIT}
