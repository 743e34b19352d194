-- The definitions of this crate that others use, passed on from the files that define them.
pub use Rattle.ctrl_msg.specs.Bodies.{body_boot}
pub use Rattle.ctrl_msg.specs.Kinds.{body_version, is_body_for_controller, message_to_controller}
