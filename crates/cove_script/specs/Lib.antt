pub mod Judging
pub mod MachineNumbers
