-- What is refused, how, and what that leaves.
pub mod Faults
pub mod PassedOver
pub mod FirstRefusals
pub mod Alike
pub mod Every
pub mod UnreadMemory
pub mod Forms
pub mod Left
pub mod AccessFaults
pub mod OwnFaults
