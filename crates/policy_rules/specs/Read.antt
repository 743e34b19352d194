-- The text of an action, as it is read.
use Rattle.std.specs.Prelude.{if◌then◌else◌, ◌<◌, List, None, Option, Some, bytes_eq, codes, drop, option_map, take, ℕ, ⊤}
use Rattle.five_tuple.specs.Exports.{tuple_number_up_to}
use Rattle.policy_rules.specs.declared.policy.Action.{Action}
use Rattle.policy_rules.specs.declared.policy.Action.TheVariants.{Drop, Out}

-- `drop`, or `out:` and the number of a port from 0 to 63
unfoldable pub policy_action_of : List ℕ → Option Action
policy_action_of text =
    if bytes_eq text (codes "drop") then Some Drop
    else if bytes_eq (take 4 text) (codes "out:")
    then option_map Out (tuple_number_up_to 63 (drop 4 text)) else None

-- if the action names a port, its number is below 64
abbrev pub HasSmallPolicyActionPort : Action → Type 0
HasSmallPolicyActionPort Drop = ⊤
HasSmallPolicyActionPort (Out port) = port < 64
