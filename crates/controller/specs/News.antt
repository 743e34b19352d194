-- What is sent to several switches at once.
use Rattle.std.specs.Prelude.{◌==◌, List, filter, ℕ}
use Rattle.base.specs.Exports.{bit_at, range_with_len}
use Rattle.ctrl_msg.specs.declared.message.Body.{Body}
use Rattle.ctrl_msg.specs.declared.message.Body.TheVariants as body
use Rattle.controller.specs.declared.settling.News.{News}
use Rattle.controller.specs.declared.settling.News.TheVariants.{Stamp, OpenAt, Collect}

abbrev pub controller_news_body : News → ℕ → ℕ → Body
controller_news_body (Stamp touched) version boot = body.Stamp boot version touched
controller_news_body OpenAt version boot = body.OpenAt boot version
controller_news_body Collect version boot = body.Collect boot version

-- of this many switches those that a mask names: switch s is bit s
abbrev pub controller_switches_in_mask : ℕ → ℕ → List ℕ
controller_switches_in_mask mask switches = filter (λ s. bit_at mask s == 1) (range_with_len 0 switches)
