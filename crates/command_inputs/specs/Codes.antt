-- The codes by which a command refuses a file as a whole or for what another file says, and the
-- most bytes of a file. They are the program's own; docs/FORMATS.md lists them with those of rows.
use Rattle.std.specs.Prelude.{ℕ}

-- a file has at most this many bytes
abbrev pub command_input_most_file_bytes : ℕ
command_input_most_file_bytes = 16_777_216

-- a trace has at most this many bytes
abbrev pub command_input_most_trace_bytes : ℕ
command_input_most_trace_bytes = 268_435_456

-- there is no such file
abbrev pub command_input_missing_file_code : ℕ
command_input_missing_file_code = 0

-- the file has more bytes than it may have
abbrev pub command_input_too_long_code : ℕ
command_input_too_long_code = 20

-- a row names a port that the network doesn't have
abbrev pub command_input_no_port_code : ℕ
command_input_no_port_code = 13

-- the first file of a command is a change
abbrev pub command_input_first_change_code : ℕ
command_input_first_change_code = 23

-- the network doesn't have the switch
abbrev pub command_input_missing_switch_code : ℕ
command_input_missing_switch_code = 21
