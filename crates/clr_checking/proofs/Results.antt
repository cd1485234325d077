-- What holds of a result.
use Rattle.std.proofs.Common.{◌≡◌, IfErr, IfOk, OnErr, OnOk, Result, Ok, Err, subst, sym}
use Rattle.std.specs.Prelude.{IsErrAnd}

pub on_ok : {A E : Type 0} (result : Result A E) {P Q : Type 0} → (P → Q) → OnOk result P → OnOk result Q
on_ok (Ok value) then holds = then holds
on_ok (Err fault) then holds = tt

pub on_both : {A E : Type 0} (result : Result A E) {P Q S : Type 0} → (P → Q → S) → OnOk result P → OnOk result Q → OnOk result S
on_both (Ok value) then one other = then one other
on_both (Err fault) then one other = tt

pub on_three : {A E : Type 0} (result : Result A E) {P Q S T : Type 0} → (P → Q → S → T) → OnOk result P → OnOk result Q → OnOk result S → OnOk result T
on_three (Ok value) then one two three = then one two three
on_three (Err fault) then one two three = tt

pub on_any : {A E : Type 0} (result : Result A E) {P : Type 0} → P → OnOk result P
on_any (Ok value) holds = holds
on_any (Err fault) holds = tt

pub if_err : {A E : Type 0} (result : Result A E) {P Q : E → Type 0} → ((fault : E) → P fault → Q fault) → IfErr result P → IfErr result Q
if_err (Ok value) then holds = tt
if_err (Err fault) then holds = then fault holds

pub on_five : {A E : Type 0} (result : Result A E) {P Q S T U V : Type 0} → (P → Q → S → T → U → V) → OnOk result P → OnOk result Q → OnOk result S → OnOk result T → OnOk result U → OnOk result V
on_five (Ok value) then one two three four five = then one two three four five
on_five (Err fault) then one two three four five = tt

pub if_err_both : {A E : Type 0} (result : Result A E) {P Q S : E → Type 0} → ((fault : E) → P fault → Q fault → S fault) → IfErr result P → IfErr result Q → IfErr result S
if_err_both (Ok value) then one other = tt
if_err_both (Err fault) then one other = then fault one other

pub if_err_on : {A E : Type 0} (result : Result A E) {P S : E → Type 0} {Q : Type 0} → ((fault : E) → P fault → Q → S fault) → IfErr result P → OnErr result Q → IfErr result S
if_err_on (Ok value) then one other = tt
if_err_on (Err fault) then one other = then fault one other

pub if_ok : {A E : Type 0} (result : Result A E) {P Q : A → Type 0} → ((value : A) → P value → Q value) → IfOk result P → IfOk result Q
if_ok (Ok value) then holds = then value holds
if_ok (Err fault) then holds = tt

-- what holds of a fault holds where it is passed on
pub passed_on : {A E : Type 0} (result : Result A E) (found : E) (P : E → Type 0) → IsErrAnd result (λ cause. cause ≡ found) → P found → IfErr result P
passed_on (Ok value) found P is holds = tt
passed_on (Err cause) found P is holds = subst P (sym is) holds
