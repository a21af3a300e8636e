pub mod HartStates
pub mod Needs
