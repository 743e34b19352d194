pub mod TunnelOnwardSwitch
