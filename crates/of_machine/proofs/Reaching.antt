-- From one point of a run to the next.
use Rattle.std.proofs.Common.{◌≡◌, ℕ, suc, zero, Bool, true, List, [], ◌∷◌, ◌++◌, refl, sym, ◌∙◌, ap, append_assoc}
use Rattle.std.proofs.lemmas.List.{append-nil}
use Rattle.of_machine.specs.Runs.{Machine, step, first_step, taken, after, Point, point, Reached, Stopped, Moves, RunStops, starting, IsPrefixOfRun}
use Rattle.of_machine.specs.{declared.data.Packet.Packet, declared.data.Item.Item, declared.data.Count.Count, declared.data.Step.Step, declared.data.Outcome.Outcome, TheWorld.TheWorld}
use Rattle.of_machine.specs.Rows.{Work, Task, task, row}

-- a point of a list of packets
abbrev pub at : List Task → List Item → List Count → List Step → Point
at tasks items counts told = record { tasks = tasks; items = items; counts = counts; told = told }

-- one more step
stepped : (w : TheWorld) (n : ℕ) (start : Machine) (p : Packet) (work : List Work) (others : List Task) (items : List Item) (counts : List Count) (lines : List Step) →
    after w n start ≡ record { tasks = task p work ∷ others; items = items; counts = counts; lines = lines } →
    after w (suc n) start ≡ taken (record { tasks = task p work ∷ others; items = items; counts = counts; lines = lines }) (row w p work) others
unfolding after step
stepped w n start p work others items counts lines h = ap (step w) h

pub one_at : (w : TheWorld) (keeps : Bool) (p : Packet) (work : List Work) (others : List Task) (items : List Item) (counts : List Count) (told told' : List Step) →
    (keeps ≡ true → told' ≡ told ++ (row w p work).line ∷ []) →
    Moves w keeps (at (task p work ∷ others) items counts told) (at ((row w p work).left ++ others) (items ++ (row w p work).items) (counts ++ (row w p work).counts) told')
one_at w keeps p work others items counts told told' line start h = record {
  steps = suc h.steps;
  lines = h.lines ++ (row w p work).line ∷ [];
  tells = λ k. line k ∙ ap (λ (ls : List Step). ls ++ (row w p work).line ∷ []) (h.tells k);
  reached = stepped w h.steps start p work others items counts h.lines h.reached;
}

-- one step, of the code's values
pub one : (w : TheWorld) (keeps : Bool) (p : Packet) (work : List Work) (others : List Task) (o o' : Outcome) (told told' : List Step) →
    o'.items.items ≡ o.items.items ++ (row w p work).items →
    o'.counts.items ≡ o.counts.items ++ (row w p work).counts →
    (keeps ≡ true → told' ≡ told ++ (row w p work).line ∷ []) →
    Moves w keeps (point (task p work ∷ others) o told) (point ((row w p work).left ++ others) o' told')
one w keeps p work others o o' told told' items counts line =
    rw (items, counts) (one_at w keeps p work others o.items.items o.counts.items told told' line)

-- a call that fails leaves the log as it is
pub stays : (w : TheWorld) (keeps : Bool) (old : Point) (told' : List Step) → told' ≡ old.told → RunStops w keeps old told'
stays w keeps old told' same start h = record {
  steps = h.steps;
  tells = λ k. same ∙ (h.tells k ∙ sym (ap (λ (m : Machine). m.lines) h.reached));
}

-- ---- the whole run

-- with other lines before
abbrev pub behind : List Step → Machine → Machine
behind told m = record { tasks = m.tasks; items = m.items; counts = m.counts; lines = told ++ m.lines }

first_behind : (w : TheWorld) (told : List Step) (m : Machine) (ts : List Task) → first_step w (behind told m) ts ≡ behind told (first_step w m ts)
first_behind w told m [] = refl
first_behind w told m (t ∷ others) =
    ap (λ (ls : List Step). record { tasks = (row w t.packet t.work).left ++ others; items = m.items ++ (row w t.packet t.work).items; counts = m.counts ++ (row w t.packet t.work).counts; lines = ls })
    (append_assoc told m.lines ((row w t.packet t.work).line ∷ []))

-- the lines before change no step
pub after_behind : (w : TheWorld) (told : List Step) (n : ℕ) (m : Machine) → after w n (behind told m) ≡ behind told (after w n m)
unfolding after step
after_behind w told zero m = refl
after_behind w told (suc n) m = ap (step w) (after_behind w told n m) ∙ first_behind w told (after w n m) (after w n m).tasks

-- a run that begins after these lines
abbrev pub begins : Packet → List Work → List Step → Machine
begins p work told = record { tasks = task p work ∷ []; items = []; counts = []; lines = told ++ [] }

pub begun : (w : TheWorld) (keeps : Bool) (p : Packet) (work : List Work) (told : List Step) → Reached w keeps (begins p work told) (at (task p work ∷ []) [] [] told)
unfolding after
begun w keeps p work told = record { steps = 0; lines = told ++ []; tells = λ _. sym (append-nil told); reached = refl }

-- some steps from the packet's start give this outcome and leave no packet, and a log that keeps gains their lines
pub record Came (w : TheWorld) (keeps : Bool) (p : Packet) (work : List Work) (outcome : Outcome) (old new : List Step) : Type 0 where
  pub steps : ℕ
  pub lines : List Step
  pub run : after w steps (starting p work) ≡ record { tasks = []; items = outcome.items.items; counts = outcome.counts.items; lines = lines }
  pub tells : keeps ≡ true → new ≡ old ++ lines

pub whole_run : (w : TheWorld) (keeps : Bool) (p : Packet) (work : List Work) (o : Outcome) (told new : List Step) →
    Reached w keeps (begins p work told) (point [] o new) → Came w keeps p work o told new
whole_run w keeps p work o told new h =
    let m = after w h.steps (starting p work) in
    let same : behind told m ≡ record { tasks = []; items = o.items.items; counts = o.counts.items; lines = h.lines } = sym (after_behind w told h.steps (starting p work)) ∙ h.reached in
    let tasks : m.tasks ≡ [] = ap (λ (x : Machine). x.tasks) same in
    let items : m.items ≡ o.items.items = ap (λ (x : Machine). x.items) same in
    let counts : m.counts ≡ o.counts.items = ap (λ (x : Machine). x.counts) same in
    record {
      steps = h.steps;
      lines = m.lines;
      run = ends_as m o tasks items counts;
      tells = λ k. h.tells k ∙ sym (ap (λ (x : Machine). x.lines) same);
    }
  where
    ends_as : (m : Machine) (o : Outcome) → m.tasks ≡ [] → m.items ≡ o.items.items → m.counts ≡ o.counts.items → m ≡ record { tasks = []; items = o.items.items; counts = o.counts.items; lines = m.lines }
    ends_as m o tasks items counts = rw (← tasks, ← items, ← counts) refl

pub whole_front : (w : TheWorld) (keeps : Bool) (p : Packet) (work : List Work) (told new : List Step) →
    Stopped w keeps (begins p work told) new → IsPrefixOfRun w keeps p work told new
whole_front w keeps p work told new h = record {
  steps = h.steps;
  tells = λ k. h.tells k ∙ ap (λ (x : Machine). x.lines) (after_behind w told h.steps (starting p work));
}
