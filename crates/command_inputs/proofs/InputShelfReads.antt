-- Reads of a shelf, one after another.
use Rattle.std.proofs.Common.{◌+◌, ◌∙◌, ◌∷◌, ◌≡◌, ◌≤◌, Bool, List, None, Ok, Option, Some, ap, arith, false, length, refl, subst, suc, true, zero, ℕ}
use Rattle.base.proofs.Exports.{ForSome}
use Rattle.net_file.specs.Exports.{port_mask}
use Rattle.update_machine.specs.Exports.{Event, Net}
use Rattle.shelf.specs.Exports.{ShelfFiles, IsShelfAfterReads, ShelfState, shelf_faults_counted_up, next_sink_fault_count}
use Rattle.command_inputs.specs.Exports.{command_input_file_reads, command_input_most_reads, command_input_net_reads, read_net, read_schedule, command_input_switch_named, input_files_to_refusal}
use Rattle.command_line.specs.Exports.{Print, PrintArguments, Replay, ReplayArguments}

shelf_faults_counted_up-shelf_faults_counted_up : (n m x : ℕ) → shelf_faults_counted_up n (shelf_faults_counted_up m x) ≡ shelf_faults_counted_up (n + m) x
shelf_faults_counted_up-shelf_faults_counted_up zero m x = ap (λ k. shelf_faults_counted_up k x) (omega arith)
shelf_faults_counted_up-shelf_faults_counted_up (suc n) m x = let sum : suc (n + m) ≡ suc n + m = omega arith in
    ap next_sink_fault_count (shelf_faults_counted_up-shelf_faults_counted_up n m x) ∙ ap (λ k. shelf_faults_counted_up k x) sum

-- some reads, and then others
pub reads_then : (a b most : ℕ) (old middle new : ShelfState) → a + b ≤ most
    → IsShelfAfterReads a old middle → IsShelfAfterReads b middle new → IsShelfAfterReads most old new
reads_then a b most old middle new few first then =
    let n = first.reads.0 in
    let m = then.reads.0 in record {
      same_files = then.same_files ∙ first.same_files;
      faults = omega (arith, first.faults, then.faults);
      reads = (
        m + n,
        omega (arith, few, first.reads.1, then.reads.1),
        then.reads.2 ∙ ap (shelf_faults_counted_up m) first.reads.2 ∙ shelf_faults_counted_up-shelf_faults_counted_up m n old.reads,
      );
    }

-- fewer reads are at most so many
pub fewer_reads : (n most : ℕ) (old new : ShelfState) → n ≤ most → IsShelfAfterReads n old new
    → IsShelfAfterReads most old new
fewer_reads n most old new few after = record {
  same_files = after.same_files;
  faults = after.faults;
  reads = (after.reads.0, omega (arith, few, after.reads.1), after.reads.2);
}

-- a replay reads its network
pub net_read : (known : Option ShelfFiles) (command : ReplayArguments)
    → command_input_net_reads command.net ≤ command_input_most_reads known (Some (Replay command))
net_read None command = omega arith
net_read (Some files) command = omega arith

-- a replay reads its schedule too, where the network is accepted
pub schedule_read : (known : Option ShelfFiles) (command : ReplayArguments) (net : Net)
    → ForSome known (λ files. read_net files command.net ≡ Ok net)
    → command_input_net_reads command.net + 1 ≤ command_input_most_reads known (Some (Replay command))
schedule_read None command net read = omega arith
schedule_read (Some files) command net read = rw (read files refl) (more _ _) where
  more : (accepted : Bool) (others : List Bool) → command_input_net_reads command.net + 1
      ≤ command_input_net_reads command.net + input_files_to_refusal (accepted ∷ others)
  more true others = omega arith
  more false others = omega arith

-- and then its policies, where the schedule is accepted
pub policies_read : (known : Option ShelfFiles) (command : ReplayArguments) (net : Net)
    (events : List Event) → ForSome known (λ files. read_net files command.net ≡ Ok net)
    → ForSome known (λ files.
    read_schedule net (length command.policies) files command.schedule ≡ Ok events)
    → command_input_net_reads command.net + 1 + command_input_file_reads true (port_mask net.switches) known command.policies
    ≤ command_input_most_reads known (Some (Replay command))
policies_read None command net events read accepted = omega arith
policies_read (Some files) command net events read accepted =
    rw (read files refl, accepted files refl) (omega arith)

-- the reads of a replay, of its network, its schedule and its policies
pub all_reads : (command : ReplayArguments) (net : Net) (events : List Event) (count ports : ℕ)
    (old one two new : ShelfState) → count ≡ length command.policies
    → ports ≡ port_mask net.switches
    → ForSome old.files (λ files. read_net files command.net ≡ Ok net)
    → ForSome one.files (λ files. read_schedule net count files command.schedule ≡ Ok events)
    → IsShelfAfterReads (command_input_net_reads command.net) old one → IsShelfAfterReads 1 one two
    → IsShelfAfterReads (command_input_file_reads true ports two.files command.policies) two new
    → IsShelfAfterReads (command_input_most_reads old.files (Some (Replay command))) old new
all_reads command net events count ports old one two new many mask net_read events_read first second
    third =
    let most = command_input_net_reads command.net + 1 in
    let both = reads_then (command_input_net_reads command.net) 1 most old one two (omega arith) first second in
    let accepted = subst (λ (n : ℕ). ForSome old.files (λ files.
    read_schedule net n files command.schedule ≡ Ok events)) many
    (λ files is. events_read files (first.same_files ∙ is)) in
    let policies = subst (λ (p : ℕ). IsShelfAfterReads (command_input_file_reads true p old.files command.policies) two
    new) mask
    (subst (λ (known : Option ShelfFiles). IsShelfAfterReads (command_input_file_reads true ports known command.policies) two
    new) (second.same_files ∙ first.same_files) third) in
    reads_then most _ _ old two new
    (policies_read old.files command net events net_read accepted) both policies

-- a printing command reads its network
pub net_asked_read : (known : Option ShelfFiles) (command : PrintArguments)
    → command_input_net_reads command.net ≤ command_input_most_reads known (Some (Print command))
net_asked_read None command = omega arith
net_asked_read (Some files) command = omega arith

-- a printing command reads its policy too, where the network and the switch are accepted
policy_read : (known : Option ShelfFiles) (command : PrintArguments) (net : Net) (switch : Option ℕ)
    → ForSome known (λ files. read_net files command.net ≡ Ok net) → command_input_switch_named net command.switch
    ≡ Ok switch → command_input_net_reads command.net + 1 ≤ command_input_most_reads known (Some (Print command))
policy_read None command net switch read found = omega arith
policy_read (Some files) command net switch read found = rw (read files refl, found) (omega arith)

-- its reads, of its network and its policy
pub both_reads : (command : PrintArguments) (net : Net) (switch : Option ℕ) (old one new : ShelfState)
    → ForSome old.files (λ files. read_net files command.net ≡ Ok net)
    → command_input_switch_named net command.switch ≡ Ok switch → IsShelfAfterReads (command_input_net_reads command.net) old one
    → IsShelfAfterReads 1 one new → IsShelfAfterReads (command_input_most_reads old.files (Some (Print command))) old new
both_reads command net switch old one new read found first second =
    reads_then (command_input_net_reads command.net) 1 _ old one new
    (policy_read old.files command net switch read found) first second
