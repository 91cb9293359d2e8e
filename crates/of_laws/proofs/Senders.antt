-- What a controller of a role may send.
use Rattle.std.proofs.Common.{◌≡◌, ℕ, Bool, true, false, cond, List, [], ◌∷◌, ◌++◌, Option, Some, None, Ok, Err, refl, sym, ap, ◌∙◌}
use Rattle.std.specs.Prelude.{◌&&◌}
use Rattle.of_wire.{specs.declared.code.Code.Code, specs.Refusals.refusal, specs.Refusals.first_of, proofs.Numbers.IsBytes}
use Rattle.of_messages.specs.declared.message.Message.TheVariants.{Hello}
use Rattle.of_messages.specs.Heads.{type_of, is_slave, is_change, head_refusals, role_refusals, xid_of}
use Rattle.of_messages.specs.{declared.message.Message.Message, declared.role.Role.Role, Messages.message_body, Messages.message_by, Messages.message_from, Messages.message_of}
use Rattle.of_messages.specs.declared.role.Role.TheVariants as role
use Rattle.of_formats.specs.Messages.{message_row}
use Rattle.of_laws.{specs.Grammar.type, specs.Grammar.changes_switch, specs.Grammar.MaySend, specs.Grammar.Encodes, proofs.AnyMessage.of_controller, proofs.Found.found, proofs.Only.only}

-- ---- refusals of which the first part does not apply

goes_on : (rs qs : List (Bool × Code)) → first_of rs ≡ None → first_of (rs ++ qs) ≡ first_of qs
goes_on [] qs none = refl
goes_on (r ∷ rs) qs none = by_test r.0 none (goes_on rs qs)
  where
    by_test : (b : Bool) → cond b (Some r.1) (first_of rs) ≡ None → (first_of rs ≡ None → first_of (rs ++ qs) ≡ first_of qs) → cond b (Some r.1) (first_of (rs ++ qs)) ≡ first_of qs
    by_test true e next = absurd cc
    by_test false e next = next e

first_part : (rs qs : List (Bool × Code)) → first_of (rs ++ qs) ≡ None → first_of rs ≡ None
first_part [] qs none = refl
first_part (r ∷ rs) qs none = by_test r.0 none (first_part rs qs)
  where
    by_test : (b : Bool) → cond b (Some r.1) (first_of (rs ++ qs)) ≡ None → (first_of (rs ++ qs) ≡ None → first_of rs ≡ None) → cond b (Some r.1) (first_of rs) ≡ None
    by_test true e next = absurd cc
    by_test false e next = next e

-- ---- the type of a message

change_same : (v : Message) → is_change (type v) ≡ changes_switch v
unfolding message_row
change_same Hello = refl
change_same other = refl

change_of : (xid : ℕ) (v : Message) (m : List ℕ) → Encodes xid v m → is_change (type_of m) ≡ changes_switch v
change_of xid v m s = ap is_change (of_controller xid v m s).kind_is ∙ change_same v

-- ---- each role

head_none : (m : List ℕ) (v : Message) → message_of m ≡ Ok v → first_of (head_refusals m) ≡ None
unfolding message_from
head_none m v h = by_first (first_of (head_refusals m ++ role_refusals role.Equal m)) refl h
  where
    by_first : (o : Option Code) → first_of (head_refusals m ++ role_refusals role.Equal m) ≡ o → message_by m o ≡ Ok v → first_of (head_refusals m) ≡ None
    by_first (Some code) none e = absurd cc
    by_first None none e = first_part (head_refusals m) (role_refusals role.Equal m) none

-- what is left is the role
by_role : (r : Role) (m : List ℕ) → first_of (head_refusals m) ≡ None → message_from r m ≡ message_by m (cond (is_slave r && is_change (type_of m)) (Some (refusal 1 10)) None)
unfolding message_from
by_role r m none = ap (message_by m) (goes_on (head_refusals m) (role_refusals r m) none)

body_same : (m : List ℕ) (v : Message) → message_of m ≡ Ok v → message_body m ≡ Ok v
body_same m v h = sym (by_role role.Equal m (head_none m v h)) ∙ h

allowed : (r : Role) (v : Message) → MaySend r v → (is_slave r && changes_switch v) ≡ false
allowed role.Slave v may = may
allowed other v may = refl

pub only_as : (r : Role) (xid : ℕ) (v : Message) (m : List ℕ) → Encodes xid v m → MaySend r v → message_from r m ≡ Ok v
only_as r xid v m s may =
    let said = only xid v m s in
    let test : (is_slave r && is_change (type_of m)) ≡ false = ap (λ (b : Bool). is_slave r && b) (change_of xid v m s) ∙ allowed r v may in
    by_role r m (head_none m v said) ∙ ap (λ (b : Bool). message_by m (cond b (Some (refusal 1 10)) None)) test ∙ body_same m v said

pub refused_as : (xid : ℕ) (v : Message) (m : List ℕ) → Encodes xid v m → changes_switch v ≡ true → message_from role.Slave m ≡ Err (refusal 1 10)
refused_as xid v m s change =
    let test : is_change (type_of m) ≡ true = change_of xid v m s ∙ change in
    by_role role.Slave m (head_none m v (only xid v m s)) ∙ ap (λ (b : Bool). message_by m (cond b (Some (refusal 1 10)) None)) test

pub record Sent (r : Role) (v : Message) (m : List ℕ) : Type 0 where
  pub encoded : Encodes (xid_of m) v m
  pub may : MaySend r v

may_send : (r : Role) (v : Message) → (is_slave r && changes_switch v) ≡ false → MaySend r v
may_send role.Slave v h = h
may_send other v h = tt

pub found_as : (r : Role) (m : List ℕ) (v : Message) → IsBytes m → message_from r m ≡ Ok v → Sent r v m
unfolding message_from
found_as r m v fits h = by_first (first_of (head_refusals m ++ role_refusals r m)) refl h
  where
    by_test : (b : Bool) → (is_slave r && is_change (type_of m)) ≡ b → cond b (Some (refusal 1 10)) None ≡ None → first_of (head_refusals m) ≡ None → message_body m ≡ Ok v → Sent r v m
    by_test true is e none body = absurd cc
    by_test false is e none body =
        let encoded = found m v fits (by_role role.Equal m none ∙ body) in
        record { encoded = encoded; may = may_send r v (ap (λ (b : Bool). is_slave r && b) (sym (change_of (xid_of m) v m encoded)) ∙ is) }

    by_first : (o : Option Code) → first_of (head_refusals m ++ role_refusals r m) ≡ o → message_by m o ≡ Ok v → Sent r v m
    by_first (Some code) none e = absurd cc
    by_first None none e =
        let head = first_part (head_refusals m) (role_refusals r m) none in
        by_test (is_slave r && is_change (type_of m)) refl (sym (goes_on (head_refusals m) (role_refusals r m) head) ∙ none) head e
