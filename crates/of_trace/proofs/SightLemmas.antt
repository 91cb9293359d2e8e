-- The steps of a run tell its packets.
use Rattle.std.proofs.Common.{◌≡◌, ◌==◌, ℕ, suc, zero, Bool, true, false, cond, List, [], ◌∷◌, ◌++◌, Option, Some, None, refl, sym, ap, ◌∙◌, ◌≤◌}
use Rattle.std.specs.Prelude.{replicate, length}
use Rattle.of_wire.specs.declared.limits.TheConstants.{OFPP_TABLE}
use Rattle.of_layers.specs.Reading.{layers_of}
use Rattle.of_rewrite.specs.{declared.frame.Ttl.Ttl, declared.frame.Ttl.TheVariants.Done, declared.frame.Ttl.TheVariants.Absent}
use Rattle.of_rewrite.specs.{TimeToLive.ttl_of, TimeToLive.dec_ttl_result, Frames.IsFrame, Frames.frame_ttl_decremented}
use Rattle.of_actions.specs.declared.instruction.Instruction.TheVariants.{Apply}
use Rattle.of_actions.specs.{declared.action.Action.Action, declared.action.Action.TheVariants.Output, declared.action.Action.TheVariants.Group, declared.action.Action.TheVariants.DecNwTtl}
use Rattle.of_actions.specs.declared.instruction.Instruction.{Instruction}
use Rattle.of_table.specs.declared.flow.Flow.{Flow}
use Rattle.of_machine.specs.Rows.{Work, Lookup, Do, RunSet, Act, Task, task, Row, row, key_of, entering, lookup_row, entry_row, output_row, group_action_row, dec_ttl_row, copies}
use Rattle.of_machine.specs.Runs.{Machine, step, first_step, after, starting}
use Rattle.of_machine.specs.{declared.data.Packet.Packet, declared.data.Step.Step, TheWorld.TheWorld, Sound.IsSound, Weights.AllFit, Growth.AllLow}
use Rattle.of_machine.proofs.{Growing.row_low, Growing.frame_low, Weighing.bounded, Whole.frame_fits, Aged.aged_same}
use Rattle.of_trace.specs.Sights.{sight_of, sights_of, output_copies, after_step, stepped, all_stepped}
use Rattle.of_trace.specs.declared.sight.Sight.{Sight}

-- ---- one row

-- what is left of a packet is what its line says
abbrev IsTold : TheWorld → Packet → Row → Type 0
IsTold w p r = sights_of r.left ≡ after_step w r.line (sight_of p)

module _ (w : TheWorld) (p : Packet) (rest : List Work) where
  entry_told : (t n : ℕ) (f : Option Flow) → IsTold w p (entry_row p t n f)
  entry_told t n None = refl
  entry_told t n (Some f) = refl

  lookup_told : (t : ℕ) (found : Option ℕ) → IsTold w p (lookup_row w p t found)
  lookup_told t None = refl
  lookup_told t (Some n) = entry_told t n (w.flow t n)

  copies_by : (port : ℕ) (tables : Bool) → (port == OFPP_TABLE) ≡ tables → output_copies port (sight_of p) ≡ cond tables (record (sight_of p) { metadata = 0 } ∷ []) []
  copies_by port tables e = ap (λ (b : Bool). cond b (record (sight_of p) { metadata = 0 } ∷ []) []) e

  output_told : (port max_len : ℕ) (tables : Bool) → (port == OFPP_TABLE) ≡ tables → IsTold w p (output_row w p rest (Output port max_len) port max_len)
  output_told port max_len true e = rw (e, copies_by port true e) refl
  output_told port max_len false e = rw (e, copies_by port false e) refl

  copies_told : (group : ℕ) (places : List ℕ) → sights_of (copies w group p places ++ task p rest ∷ []) ≡ replicate (length places) (sight_of p) ++ sight_of p ∷ []
  copies_told group [] = refl
  copies_told group (k ∷ places) = ap (λ (l : List Sight). sight_of p ∷ l) (copies_told group places)

  group_told : (group : ℕ) (chosen : Option (List ℕ)) → w.chosen group ≡ chosen → IsTold w p (group_action_row w p rest group chosen)
  group_told group None e = rw e refl
  group_told group (Some places) e = rw e (copies_told group places)

  same_frame : (frame : List ℕ) → frame ≡ p.frame → (sight_of p ∷ []) ≡ (record (sight_of p) { frame = frame } ∷ [])
  same_frame frame e = rw e refl

  aged_told : (answer : Ttl) → dec_ttl_result (ttl_of (layers_of p.frame)) ≡ answer → IsFrame p.frame → IsTold w p (dec_ttl_row p rest answer)
  aged_told Absent e h = same_frame (frame_ttl_decremented p.frame) (aged_same p.frame h (λ done. let x : Absent ≡ Done = sym e ∙ done in cc))
  aged_told other e h = refl

  act_told : (a : Action) → IsFrame p.frame → IsTold w p (row w p (Act a ∷ rest))
  act_told (Output port max_len) h = output_told port max_len (port == OFPP_TABLE) refl
  act_told (Group group) h = group_told group (w.chosen group) refl
  act_told DecNwTtl h = aged_told (dec_ttl_result (ttl_of (layers_of p.frame))) refl h
  act_told other h = refl

  do_told : (i : Instruction) → IsTold w p (row w p (Do i ∷ rest))
  do_told (Apply l) = refl
  do_told other = refl

row_told : (w : TheWorld) (p : Packet) (work : List Work) → IsFrame p.frame → IsTold w p (row w p work)
row_told w p [] h = refl
row_told w p (Lookup t ∷ rest) h = lookup_told w p rest t (w.winner t (key_of p))
row_told w p (Do i ∷ rest) h = do_told w p rest i
row_told w p (RunSet ∷ rest) h = refl
row_told w p (Act a ∷ rest) h = act_told w p rest a h

-- ---- runs

sights_more : (xs ys : List Task) → sights_of (xs ++ ys) ≡ sights_of xs ++ sights_of ys
sights_more [] ys = refl
sights_more (t ∷ xs) ys = ap (λ (l : List Sight). sight_of t.packet ∷ l) (sights_more xs ys)

one_step_more : (w : TheWorld) (xs : List Step) (x : Step) (sights : List Sight) → all_stepped w (xs ++ x ∷ []) sights ≡ stepped w x (all_stepped w xs sights)
one_step_more w [] x sights = refl
one_step_more w (y ∷ xs) x sights = one_step_more w xs x (stepped w y sights)

low_more : (w : TheWorld) (b : ℕ) (xs ys : List Task) → AllLow w b xs → AllLow w b ys → AllLow w b (xs ++ ys)
low_more w b [] ys x y = y
low_more w b (t ∷ xs) ys x y = (x.0, low_more w b xs ys x.1 y)

module _ (w : TheWorld) (sound : IsSound w) (b : ℕ) (sights : List Sight) where
  record AreTold (m : Machine) : Type 0 where
    low : AllLow w b m.tasks
    told : sights_of m.tasks ≡ all_stepped w m.lines sights

  first_told : (m : Machine) (ts : List Task) → AllFit ts → m.tasks ≡ ts → AreTold m → AreTold (first_step w m ts)
  first_told m [] fit e h = h
  first_told m (t ∷ others) fit e h =
      let low : AllLow w b (t ∷ others) = rw e at h.low in
      let was : sights_of (t ∷ others) ≡ all_stepped w m.lines sights = rw e at h.told in
      let r = row w t.packet t.work in
      record {
        low = low_more w b r.left others (row_low w sound b t.packet t.work fit.0.set fit.0.work low.0) low.1;
        told = sights_more r.left others ∙ (ap (λ (l : List Sight). l ++ sights_of others) (row_told w t.packet t.work low.0.frame) ∙ (ap (stepped w r.line) was ∙ sym (one_step_more w m.lines r.line sights)));
      }

  told_after : (k : ℕ) (m : Machine) → AllFit m.tasks → AreTold m → AreTold (after w k m)
  unfolding after step
  told_after zero m fit h = h
  told_after (suc k) m fit h =
      first_told (after w k m) (after w k m).tasks (bounded w sound k m fit).0 refl (told_after k m fit h)

-- the run of a frame
pub frame_told : (w : TheWorld) (frame : List ℕ) (port k : ℕ) → IsSound w → IsFrame frame → length frame ≤ 9216 → sights_of (after w k (starting (entering frame port) (Lookup 0 ∷ []))).tasks ≡ all_stepped w (after w k (starting (entering frame port) (Lookup 0 ∷ []))).lines (sight_of (entering frame port) ∷ [])
frame_told w frame port k sound is_frame few =
    let p = entering frame port in
    let low = frame_low w sound p is_frame few in
    (told_after w sound 13328 (sight_of p ∷ []) k (starting p (Lookup 0 ∷ [])) (frame_fits w sound p refl, tt) (record { low = (low, tt); told = refl })).told
