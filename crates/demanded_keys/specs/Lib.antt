pub mod KeysByUse
pub mod Recovery
pub mod WaitingKey
pub mod RecoveryExample
