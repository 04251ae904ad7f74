pub mod Provisioning
