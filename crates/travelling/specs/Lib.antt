pub mod SwitchIndex
pub mod Travelling
