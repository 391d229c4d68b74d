pub mod Forwarders
