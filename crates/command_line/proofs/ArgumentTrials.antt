-- The grammar of arguments, tried on literals by computing.
use Rattle.std.proofs.Common.{[], ◌∷◌, ◌≡◌, None, Some, codes, false, refl, replicate, true}
use Rattle.five_tuple.specs.Exports.{tuple_number_up_to}
use Rattle.command_line.specs.Exports.{Print, Replay, command_of_arguments}
use Rattle.command_line.specs.declared.report.Report.TheVariants.{Flows, Lines, Placement}

two_names : command_of_arguments (codes "replay" ∷ codes "s.csv" ∷ codes "p.csv" ∷ []) ≡ Some
    (Replay (record {
      schedule = codes "s.csv";
      policies = codes "p.csv" ∷ [];
      net = None;
      report = Lines false;
    }))
two_names = refl

no_option : command_of_arguments (codes "replay" ∷ codes "s.csv" ∷ codes "--net" ∷ []) ≡ None
no_option = refl

no_empty_name : command_of_arguments (codes "replay" ∷ [] ∷ codes "p.csv" ∷ []) ≡ None
no_empty_name = refl

two_policies : command_of_arguments (codes "replay" ∷ codes "s.csv" ∷ codes "p.csv" ∷ codes "q.csv" ∷ [])
    ≡ Some (Replay (record {
      schedule = codes "s.csv";
      policies = codes "p.csv" ∷ codes "q.csv" ∷ [];
      net = None;
      report = Lines false;
    }))
two_policies = refl

no_policy : command_of_arguments (codes "replay" ∷ codes "s.csv" ∷ []) ≡ None
no_policy = refl

no_65_policies : command_of_arguments (codes "replay" ∷ codes "s.csv" ∷ replicate 65 (codes "p.csv")) ≡ None
no_65_policies = refl

no_policy_behind : command_of_arguments
    (codes "replay" ∷ codes "s.csv" ∷ codes "p.csv" ∷ codes "--net=n" ∷ codes "q.csv" ∷ []) ≡ None
no_policy_behind = refl

one_policy : command_of_arguments (codes "compile" ∷ codes "p.csv" ∷ []) ≡ Some
    (Print (record { policy = codes "p.csv"; switch = None; net = None }))
one_policy = refl

net_behind : command_of_arguments (codes "show" ∷ codes "p.csv" ∷ codes "a" ∷ codes "--net" ∷ codes "n" ∷ [])
    ≡ Some (Print (record {
      policy = codes "p.csv";
      switch = Some (codes "a");
      net =
          Some (codes "n");
    }))
net_behind = refl

net_in_front : command_of_arguments (codes "compile" ∷ codes "--net=n" ∷ codes "p.csv" ∷ []) ≡ Some
    (Print (record { policy = codes "p.csv"; switch = None; net = Some (codes "n") }))
net_in_front = refl

no_two_nets : command_of_arguments (codes "compile" ∷ codes "--net=n" ∷ codes "p.csv" ∷ codes "--net=m" ∷ [])
    ≡ None
no_two_nets = refl

no_empty_net : command_of_arguments (codes "compile" ∷ codes "p.csv" ∷ codes "--net=" ∷ []) ≡ None
no_empty_net = refl

no_net_between : command_of_arguments (codes "show" ∷ codes "p.csv" ∷ codes "--net=n" ∷ codes "a" ∷ []) ≡ None
no_net_between = refl

net_for_replay : command_of_arguments
    (codes "replay" ∷ codes "s.csv" ∷ codes "p.csv" ∷ codes "--net=n" ∷ []) ≡ Some
    (Replay (record {
      schedule = codes "s.csv";
      policies = codes "p.csv" ∷ [];
      net = Some (codes "n");
      report = Lines false;
    }))
net_for_replay = refl

flag_behind_net : command_of_arguments (codes "replay" ∷ codes "s.csv" ∷ codes "p.csv" ∷ codes "--net=n"
    ∷ codes "--quiet" ∷ []) ≡ Some (Replay (record {
      schedule = codes "s.csv";
      policies = codes "p.csv" ∷ [];
      net = Some (codes "n");
      report = Lines true;
    }))
flag_behind_net = refl

no_two_flags : command_of_arguments
    (codes "replay" ∷ codes "--quiet" ∷ codes "s.csv" ∷ codes "p.csv" ∷ codes "--quiet" ∷ [])
    ≡ None
no_two_flags = refl

no_option_for_load : command_of_arguments (codes "load" ∷ codes "--net=n" ∷ codes "1" ∷ []) ≡ None
no_option_for_load = refl

no_load_0 : command_of_arguments (codes "load" ∷ codes "0" ∷ []) ≡ None
unfolding tuple_number_up_to
no_load_0 = refl

no_leading_zero : command_of_arguments (codes "load" ∷ codes "05" ∷ []) ≡ None
unfolding tuple_number_up_to
no_leading_zero = refl

no_flag_for_plans : command_of_arguments (codes "compile" ∷ codes "p.csv" ∷ codes "--quiet" ∷ []) ≡ None
no_flag_for_plans = refl

flows_too : command_of_arguments
    (codes "flows" ∷ codes "s.csv" ∷ codes "p.csv" ∷ codes "--net=n" ∷ [])
    ≡ Some (Replay (record {
      schedule = codes "s.csv";
      policies = codes "p.csv" ∷ [];
      net = Some (codes "n");
      report = Flows;
    }))
flows_too = refl

rebalance_too : command_of_arguments (codes "rebalance" ∷ codes "s.csv" ∷ codes "p.csv" ∷ []) ≡ Some
    (Replay (record {
      schedule = codes "s.csv";
      policies = codes "p.csv" ∷ [];
      net = None;
      report = Placement;
    }))
rebalance_too = refl

no_quiet_flows : command_of_arguments
    (codes "flows" ∷ codes "--quiet" ∷ codes "s.csv" ∷ codes "p.csv" ∷ []) ≡ None
no_quiet_flows = refl
