-- What holds where a result is a value, and where it is an error.
use Rattle.std.proofs.Common.{◌≡◌, Err, IsErr, IsErrAnd, IsErrOf, Ok, OnErr, OnOk, Result, ap, rules}
use Rattle.std.specs.Result.{result_unwrap_or}

pub on_ok : {T E P : Type 0} (r : Result T E) → P → OnOk r P
on_ok r p = search rules

pub on_err : {T E P : Type 0} (r : Result T E) → P → OnErr r P
on_err r p = search rules

pub on_err_holds : {T E : Type 0} (result : Result T E) (Holds : Type 0) → Holds → OnErr result Holds
on_err_holds result Holds holds = search rules

-- one that is handed on stays the same
pub same_error : {U E : Type 0} (result : Result U E) (e error : E)
    → IsErrAnd result (λ x. x ≡ e) → IsErrOf result error → e ≡ error
same_error result e error same is = search rules

pub ok_value : {X E : Type 0} (x y : X) → ◌≡◌ {A = Result X E} (Ok x) (Ok y) → x ≡ y
ok_value x y e = ap (λ r. result_unwrap_or r x) e

-- a call that succeeded didn't fail
pub ok_is_not_err : {T E : Type 0} (x : T) (e : E) → Ok x ≡ Err e → ⊥
ok_is_not_err x e is = absurd cc

-- a call that failed owes nothing of what holds where it succeeds
pub on_ok_failed : {T E : Type 0} (P : Type 0) (r : Result T E) → IsErr r → OnOk r P
on_ok_failed P r failed = search rules

pub both_ok : {T E P Q R : Type 0} (r : Result T E) → (P → Q → R) → OnOk r P → OnOk r Q → OnOk r R
both_ok r f p q = search rules

pub three_ok : {T E P Q R S : Type 0} (r : Result T E) → (P → Q → R → S) → OnOk r P → OnOk r Q
    → OnOk r R → OnOk r S
three_ok r f p q s = search rules
