-- The format of messages: the receiver, the kind, and the fields of that kind.
use Rattle.std.specs.Prelude.{if◌then◌else◌, ◌++◌, ◌<◌, ◌==◌, ◌^◌, ◌≡◌, All, Bool, List, None, Option, Some, length, nat_lt, not, true, ℕ}
use Rattle.ctrl_msg.specs.Exports.{is_body_for_controller}
use Rattle.ctrl_msg.specs.declared.message.Place.{Place}
use Rattle.ctrl_msg.specs.declared.message.Place.TheVariants.{Switch, Controller}
use Rattle.ctrl_msg.specs.declared.message.Body.{Body}
use Rattle.ctrl_msg.specs.declared.message.Body.TheVariants.{Install, OpenAt, Stamp, Collect, CacheRule, Advertise, Hello, Installed, Stamped}
use Rattle.ctrl_msg.specs.declared.message.Message.{Message}
use Rattle.failover.specs.declared.advert.Advert.{Advert}
use Rattle.policy_rules.specs.declared.policy.Action.{Action}
use Rattle.policy_rules.specs.declared.rules.Partition.{Partition}
use Rattle.switch_table.specs.declared.tables.PartRow.{PartRow}
use Rattle.switch_table.specs.declared.tables.Tables.{Tables}
use Rattle.ternary.specs.Exports.{WordValue}
use Rattle.wire.specs.Format.{WireFormat, wire_format_then_read, ◌⊗◌, wire_format_as_type, wire_format_such_that}
use Rattle.wire.specs.Fields as form

-- ---- the receiver: a switch, or 255 for the controller

abbrev pub wire_spelled_receiver : Place → List ℕ
wire_spelled_receiver (Switch s) = form.switch.spell s
wire_spelled_receiver Controller = form.n1.spell 255

abbrev pub wire_receiver_fits : Place → Bool
wire_receiver_fits (Switch s) = form.switch.fits s
wire_receiver_fits Controller = true

abbrev pub wire_receiver_of : ℕ → Option Place
wire_receiver_of n =
    if n == 255 then Some Controller else (if nat_lt n 64 then Some (Switch n) else None)

unfoldable pub wire_receiver : WireFormat Place
wire_receiver = record {
  spell = wire_spelled_receiver;
  fits = wire_receiver_fits;
  read = λ bytes. wire_format_then_read (form.n1.read bytes) (λ x.
      wire_format_then_read (wire_receiver_of x.0) (λ to. Some (to, x.1)));
}

-- ---- the fields of each kind

unfoldable pub wire_install_form : WireFormat (ℕ × Tables)
wire_install_form = form.n4 ⊗ form.tables

unfoldable pub wire_boot_and_version : WireFormat (ℕ × ℕ)
wire_boot_and_version = form.n4 ⊗ form.n4

unfoldable pub wire_stamp_form : WireFormat (ℕ × (ℕ × List WordValue))
wire_stamp_form = form.n4 ⊗ form.n4 ⊗ form.touched

unfoldable pub wire_cache_rule_form : WireFormat (ℕ × (WordValue × (Option ℕ × Action)))
wire_cache_rule_form = form.n4 ⊗ form.word ⊗ form.wire_rule_name ⊗ form.action

unfoldable pub advert : WireFormat Advert
advert =
    wire_format_as_type (λ p. record { origin = p.0; boot = p.1.0; seq = p.1.1.0; up = p.1.1.1 })
    (λ a. (a.origin, (a.boot, (a.seq, a.up))))
    (form.switch ⊗ form.n4 ⊗ form.n4 ⊗ form.n8)

unfoldable pub hello : WireFormat (ℕ × ℕ)
hello = form.switch ⊗ form.n4

unfoldable pub wire_acknowledgement : WireFormat (ℕ × (ℕ × ℕ))
wire_acknowledgement = form.switch ⊗ wire_boot_and_version

-- ---- the body: the kind, and its fields

abbrev pub wire_kind_number : Body → ℕ
wire_kind_number (Install _ _) = 1
wire_kind_number (OpenAt _ _) = 2
wire_kind_number (Stamp _ _ _) = 3
wire_kind_number (Collect _ _) = 4
wire_kind_number (CacheRule _ _ _ _) = 5
wire_kind_number (Advertise _) = 6
wire_kind_number (Hello _ _) = 7
wire_kind_number (Installed _ _ _) = 8
wire_kind_number (Stamped _ _ _) = 9

-- a value in its format: the encoding, and whether it has one
abbrev pub wire_spelled_in_format : {A : Type 0} → WireFormat A → A → List ℕ × Bool
wire_spelled_in_format f x = (f.spell x, f.fits x)

abbrev pub wire_fields_in_format : Body → List ℕ × Bool
wire_fields_in_format (Install boot tables) = wire_spelled_in_format wire_install_form (boot, tables)
wire_fields_in_format (OpenAt boot version) = wire_spelled_in_format wire_boot_and_version (boot, version)
wire_fields_in_format (Stamp boot version touched) = wire_spelled_in_format wire_stamp_form (boot, (version, touched))
wire_fields_in_format (Collect boot version) = wire_spelled_in_format wire_boot_and_version (boot, version)
wire_fields_in_format (CacheRule version word rule action) =
    wire_spelled_in_format wire_cache_rule_form (version, (word, (rule, action)))
wire_fields_in_format (Advertise news) = wire_spelled_in_format advert news
wire_fields_in_format (Hello switch boot) = wire_spelled_in_format hello (switch, boot)
wire_fields_in_format (Installed switch boot version) = wire_spelled_in_format wire_acknowledgement
    (switch, (boot, version))
wire_fields_in_format (Stamped switch boot version) = wire_spelled_in_format wire_acknowledgement (switch, (boot, version))

abbrev pub wire_spelled_fields : Body → List ℕ
wire_spelled_fields body = (wire_fields_in_format body).0

abbrev pub wire_fields_fit : Body → Bool
wire_fields_fit body = (wire_fields_in_format body).1

-- the body that the fields make
abbrev pub wire_made_body : {A : Type 0} → (A → Body) → Option (A × List ℕ) → Option (Body × List ℕ)
wire_made_body make read = wire_format_then_read read (λ x. Some (make x.0, x.1))

abbrev pub wire_cache_rule_of : ℕ × (WordValue × (Option ℕ × Action)) → Body
wire_cache_rule_of p = CacheRule p.0 p.1.0 p.1.1.0 p.1.1.1

abbrev pub read_wire_fields : ℕ → List ℕ → Option (Body × List ℕ)
read_wire_fields kind bytes =
    if kind == 1 then wire_made_body (λ p. Install p.0 p.1) (wire_install_form.read bytes)
    else (if kind == 2 then wire_made_body (λ p. OpenAt p.0 p.1) (wire_boot_and_version.read bytes)
    else (if kind == 3 then wire_made_body (λ p. Stamp p.0 p.1.0 p.1.1) (wire_stamp_form.read bytes)
    else (if kind == 4 then wire_made_body (λ p. Collect p.0 p.1) (wire_boot_and_version.read bytes)
    else (if kind == 5 then wire_made_body wire_cache_rule_of (wire_cache_rule_form.read bytes)
    else (if kind == 6 then wire_made_body Advertise (advert.read bytes)
    else (if kind == 7 then wire_made_body (λ p. Hello p.0 p.1) (hello.read bytes)
    else (if kind == 8 then wire_made_body (λ p. Installed p.0 p.1.0 p.1.1) (wire_acknowledgement.read bytes)
    else (if kind == 9 then wire_made_body (λ p. Stamped p.0 p.1.0 p.1.1) (wire_acknowledgement.read bytes)
    else None))))))))

unfoldable pub body : WireFormat Body
body = record {
  spell = λ b. form.n1.spell (wire_kind_number b) ++ wire_spelled_fields b;
  fits = wire_fields_fit;
  read = λ bytes. wire_format_then_read (form.n1.read bytes) (λ kind. read_wire_fields kind.0 kind.1);
}

-- ---- what comes before the tables in the encoding of an installation

-- the receiver, the kind, and the boot
unfoldable pub wire_message_front : WireFormat (Place × (ℕ × ℕ))
wire_message_front = wire_receiver ⊗ form.n1 ⊗ form.n4

-- the front of an installation for this receiver and this boot
abbrev pub wire_spelled_front : Place → ℕ → List ℕ
wire_spelled_front to boot = wire_message_front.spell (to, (1, boot))

-- the bytes are the front of an installation for this receiver and this boot
pub record IsWireFront (to : Place) (boot : ℕ) (bytes : List ℕ) : Type 0 where
  pub fits : wire_message_front.fits (to, (1, boot)) ≡ true
  pub spelled : bytes ≡ wire_spelled_front to boot

-- the receiver and the boot, if the bytes are exactly the front of an installation
abbrev pub wire_read_front : List ℕ → Option ((Place × ℕ) × List ℕ)
wire_read_front bytes =
    wire_format_then_read (wire_message_front.read bytes) (λ x.
    if x.0.1.0 == 1
    then (if length x.1 == 0 then Some ((x.0.0, x.0.1.1), x.1) else None)
    else None)

-- ---- messages

-- a message to the controller has a body for it, and one to a switch has one for a switch
abbrev pub wire_body_suits_receiver : Place → Body → Bool
wire_body_suits_receiver (Switch s) body = not (is_body_for_controller body)
wire_body_suits_receiver Controller body = is_body_for_controller body

unfoldable pub message : WireFormat Message
message =
    wire_format_as_type (λ p. record { to = p.0; body = p.1 }) (λ m. (m.to, m.body))
    (wire_format_such_that (λ p. wire_body_suits_receiver p.0 p.1) (wire_receiver ⊗ body))

-- the message that all of the bytes encode
abbrev pub whole_wire_message : List ℕ → Option (Message × List ℕ)
whole_wire_message bytes = wire_format_then_read (message.read bytes) (λ m. if length m.1 == 0 then Some m else None)

-- the bytes are the encoding of the message: each number fits its bytes, each switch is below 64,
-- each list is shorter than 2^32, and the receiver suits the body
pub record IsWireSpelling (m : Message) (bytes : List ℕ) : Type 0 where
  pub fits : message.fits m ≡ true
  pub spelled : bytes ≡ message.spell m

-- ---- when a message of the program's types has an encoding

abbrev pub AreWireSwitchNumbers : PartRow → Type 0
AreWireSwitchNumbers row = All (λ s. s < 64) row.targets

abbrev pub HasFewWireRules : Partition → Type 0
HasFewWireRules part = length part.rules < 2 ^ 32

pub record AreWireShort (t : Tables) : Type 0 where
  pub regions : length t.parts < 2 ^ 32
  pub targets : All AreWireSwitchNumbers t.parts
  pub partitions : length t.auth < 2 ^ 32
  pub rules : All HasFewWireRules t.auth

abbrev pub WireFieldsSuit : Body → Type 0
WireFieldsSuit (Install boot tables) = AreWireShort tables
WireFieldsSuit (Advertise news) = news.origin < 64
WireFieldsSuit (Hello switch boot) = switch < 64
WireFieldsSuit (Installed switch boot version) = switch < 64
WireFieldsSuit (Stamped switch boot version) = switch < 64
WireFieldsSuit _ = Unit {0}

abbrev pub IsWirePlace : Place → Type 0
IsWirePlace (Switch s) = s < 64
IsWirePlace Controller = Unit {0}

-- switches below 64, lists shorter than 2^32, and a receiver that suits the body
pub record HasWireSpelling (m : Message) : Type 0 where
  pub switch : IsWirePlace m.to
  pub suits : wire_body_suits_receiver m.to m.body ≡ true
  pub fields : WireFieldsSuit m.body
