-- The types that histories speak of, handed on so that one import brings them.
pub use Rattle.cove_base.specs.Scripts.{ScriptValue}
pub use Rattle.cove_base.specs.declared.calls.GuestAct.{GuestAct}
pub use Rattle.cove_base.specs.declared.calls.HostCall.{HostCall}
pub use Rattle.cove_base.specs.declared.calls.HostCall.TheVariants.{Convert, GlobalFence, LocalFence, Reclaim, Create, Region, Tables, Measured, Vcpu, Finalize, Zero, Shared, Run, Invalidate, TvmFence, Validate, Remove, Destroy, Kick, Info, Bind, Unbind, Unbound, Inject}
pub use Rattle.cove_base.specs.declared.events.Entry.{Entry}
pub use Rattle.cove_base.specs.declared.events.Event.{Event}
pub use Rattle.cove_base.specs.declared.events.How.{How}
pub use Rattle.cove_base.specs.declared.events.How.TheVariants.{Hit, Walk}
pub use Rattle.cove_base.specs.declared.scripts.Fill.{Fill}
pub use Rattle.cove_base.specs.declared.scripts.Line.{Line}
pub use Rattle.cove_base.specs.declared.scripts.ScriptLine.{ScriptLine}
pub use Rattle.cove_base.specs.declared.statuses.Reply.{Reply}
pub use Rattle.cove_base.specs.declared.statuses.Status.{Status}
pub use Rattle.cove_base.specs.declared.statuses.Status.TheVariants.{Success, NotSupported, InvalidParam, Denied, InvalidAddress, AlreadyStarted}
