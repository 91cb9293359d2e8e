-- A packet whose work sends nothing ends, and nothing is emitted or counted.
use Rattle.std.proofs.Common.{◌≡◌, ℕ, suc, zero, ◌+◌, Bool, true, false, List, [], ◌∷◌, ◌++◌, refl, sym, ◌∙◌, ap, arith}
use Rattle.std.{specs.Prelude.◌||◌, specs.List.list_any, proofs.lemmas.List.append-nil}
use Rattle.of_actions.specs.declared.action.Action.TheVariants.{Output, Group, DecNwTtl}
use Rattle.of_actions.specs.declared.action.Action.{Action}
use Rattle.of_action_set.specs.Sets.{in_order}
use Rattle.of_check.specs.{Actions.may_send_packet, Unseen.ComesUnseen as Quietly}
use Rattle.of_machine.specs.Rows.{Work, RunSet, Act, Task, task, Row, row, acts, act_row, goes_on, rewritten, set_out}
use Rattle.of_machine.specs.Runs.{Machine, step, first_step, taken, after}
use Rattle.of_machine.specs.{declared.data.Packet.Packet, declared.data.Item.Item, declared.data.Count.Count, declared.data.Step.TheVariants.Act as DidAct, TheWorld.TheWorld}

-- ---- steps, one after the other

after_after : (w : TheWorld) (a b : ℕ) (m : Machine) → after w a (after w b m) ≡ after w (a + b) m
unfolding after
after_after w zero b m = ap (λ (k : ℕ). after w k m) (omega arith)
after_after w (suc a) b m =
    let more : suc (a + b) ≡ suc a + b = omega arith in
    ap (step w) (after_after w a b m) ∙ ap (λ (k : ℕ). after w k m) more

pub onward : (w : TheWorld) (m : Machine) (tasks tasks' : List Task) → (a : Quietly w m tasks) → Quietly w (after w a.steps m) tasks' → Quietly w m tasks'
onward w m tasks tasks' a b =
    let both = after_after w b.steps a.steps m in
    record {
      steps = b.steps + a.steps;
      tasks_are = ap (λ (x : Machine). x.tasks) (sym both) ∙ b.tasks_are;
      items_are = ap (λ (x : Machine). x.items) (sym both) ∙ (b.items_are ∙ a.items_are);
      counts_are = ap (λ (x : Machine). x.counts) (sym both) ∙ (b.counts_are ∙ a.counts_are);
    }

nowhere : (w : TheWorld) (m : Machine) (tasks : List Task) → m.tasks ≡ tasks → Quietly w m tasks
unfolding after
nowhere w m tasks is = record { steps = 0; tasks_are = is; items_are = refl; counts_are = refl }

-- one step whose row emits and counts nothing
pub one_step : (w : TheWorld) (m : Machine) (p : Packet) (work : List Work) (others : List Task) (r : Row) → m.tasks ≡ task p work ∷ others → row w p work ≡ r → r.items ≡ [] → r.counts ≡ [] → Quietly w m (r.left ++ others)
unfolding after step
one_step w m p work others r is e i c =
    let stepped : step w m ≡ taken m r others = ap (λ (ts : List Task). first_step w m ts) is ∙ ap (λ (x : Row). taken m x others) e in
    record {
      steps = 1;
      tasks_are = ap (λ (x : Machine). x.tasks) stepped;
      items_are = ap (λ (x : Machine). x.items) stepped ∙ (ap (λ (x : List Item). m.items ++ x) i ∙ append-nil m.items);
      counts_are = ap (λ (x : Machine). x.counts) stepped ∙ (ap (λ (x : List Count). m.counts ++ x) c ∙ append-nil m.counts);
    }

-- ---- actions that send nothing

silent_row : (w : TheWorld) (p : Packet) (rest : List Work) (a : Action) → may_send_packet a ≡ false → act_row w p rest a ≡ goes_on (DidAct a) (record p { frame = rewritten a p.frame }) rest
silent_row w p rest (Output port max_len) h = absurd cc
silent_row w p rest (Group g) h = absurd cc
silent_row w p rest DecNwTtl h = absurd cc
silent_row w p rest other h = refl

pub or_parts : (a b : Bool) → (a || b) ≡ false → (a ≡ false) × (b ≡ false)
or_parts true b h = absurd cc
or_parts false b h = (refl, h)

-- after them the packet has the same action set
pub record Done (w : TheWorld) (m : Machine) (p : Packet) (rest : List Work) (others : List Task) : Type 0 where
  pub packet : Packet
  pub same_set : packet.action_set ≡ p.action_set
  pub comes : Quietly w m (task packet rest ∷ others)

pub acts_done : (w : TheWorld) (l : List Action) (p : Packet) (rest : List Work) (others : List Task) (m : Machine) → list_any may_send_packet l ≡ false → m.tasks ≡ task p (acts l ++ rest) ∷ others → Done w m p rest others
acts_done w [] p rest others m h is = record { packet = p; same_set = refl; comes = nowhere w m (task p rest ∷ others) is }
acts_done w (a ∷ l) p rest others m h is =
    let parts = or_parts (may_send_packet a) (list_any may_send_packet l) h in
    let q : Packet = record p { frame = rewritten a p.frame } in
    let first = one_step w m p (Act a ∷ acts l ++ rest) others (goes_on (DidAct a) q (acts l ++ rest)) is (silent_row w p (acts l ++ rest) a parts.0) refl refl in
    let others_done = acts_done w l q rest others (after w first.steps m) parts.1 first.tasks_are in
    record { packet = others_done.packet; same_set = others_done.same_set; comes = onward w m _ _ first others_done.comes }

ended : (w : TheWorld) (m : Machine) (p : Packet) (others : List Task) → m.tasks ≡ task p [] ∷ others → Quietly w m others
ended w m p others is = one_step w m p [] others (row w p []) is refl refl refl

pub set_ended : (w : TheWorld) (m : Machine) (p : Packet) (others : List Task) → list_any may_send_packet (in_order p.action_set) ≡ false → m.tasks ≡ task p (RunSet ∷ []) ∷ others → Quietly w m others
set_ended w m p others h is =
    let first = one_step w m p (RunSet ∷ []) others (row w p (RunSet ∷ [])) is refl refl refl in
    let done = acts_done w (in_order p.action_set) (set_out p) [] others (after w first.steps m) h first.tasks_are in
    let so_far = onward w m _ _ first done.comes in
    onward w m _ _ so_far (ended w (after w so_far.steps m) done.packet others so_far.tasks_are)

pub unseen : (w : TheWorld) (m : Machine) (p : Packet) (l : List Action) (others : List Task) → list_any may_send_packet l ≡ false → list_any may_send_packet (in_order p.action_set) ≡ false → m.tasks ≡ task p (acts l ++ RunSet ∷ []) ∷ others → Quietly w m others
unseen w m p l others h s is =
    let done = acts_done w l p (RunSet ∷ []) others m h is in
    let silent : list_any may_send_packet (in_order done.packet.action_set) ≡ false = ap (λ (x : List Action). list_any may_send_packet (in_order x)) done.same_set ∙ s in
    onward w m _ _ done.comes (set_ended w (after w done.comes.steps m) done.packet others silent done.comes.tasks_are)
