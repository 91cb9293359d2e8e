-- Turns, one after the other, and how they end.
use Rattle.std.proofs.Common.{◌≡◌, ◌<◌, ◌+◌, ◌∙◌, ℕ, List, Bool, Option, Err, ap, refl, sym, subst, inl}
use Rattle.of_replay.specs.{declared.event_file.Ended.TheVariants.Done, declared.halt.Halt.Halt}
use Rattle.of_replay.specs.{declared.halt.Halt.TheVariants.Bad, declared.halt.Halt.TheVariants.Memory, declared.halt.Halt.TheVariants.Read, declared.halt.Halt.TheVariants.Write, Stepping.ended_so}
use Rattle.of_live.specs.Turns.{LiveTurns, None, Then, AreLiveTurns, live_turn_count, passed, after_live_turns}
use Rattle.of_live.{specs.Live.Live, specs.Acts.Act, specs.Acts.Records, specs.Working.GoesOn, specs.Working.LiveHalts, specs.Ends.Lives, proofs.Passing.records_more, proofs.Passing.records_none}

-- so many turns passed
pub record SoFar (n : ℕ) (keeps : Bool) (l l' : Live) (old new : Option (List Act)) : Type 0 where
  pub ts : LiveTurns
  pub are : AreLiveTurns l ts
  pub count_is : live_turn_count ts ≡ n
  pub live_is : l' ≡ after_live_turns l ts
  pub told_is : Records old (passed keeps l ts) new

pub so_far_begun : (keeps : Bool) (l : Live) (old : Option (List Act)) → SoFar 0 keeps l l old old
so_far_begun keeps l old = record { ts = None; are = tt; count_is = refl; live_is = refl; told_is = records_none old }

pub so_far_more : (n : ℕ) (keeps k : Bool) (l l1 l2 : Live) (a b c : Option (List Act)) → SoFar n keeps l l1 a b → k ≡ keeps → GoesOn k l1 l2 b c → SoFar (n + 1) keeps l l2 a c
so_far_more n keeps k l l1 l2 a b c so ke g =
    let h : GoesOn keeps (after_live_turns l so.ts) l2 b c = subst (λ (x : Live). GoesOn keeps x l2 b c) so.live_is (subst (λ (x : Bool). GoesOn x l1 l2 b c) ke g) in
    record {
      ts = Then so.ts h.turn;
      are = (so.are, h.is);
      count_is = ap (λ m. m + 1) so.count_is;
      live_is = h.live_is;
      told_is = records_more a b c _ _ so.told_is h.told_is;
    }

pub lives_all : (n turns : ℕ) (keeps : Bool) (l l' : Live) (a b : Option (List Act)) → SoFar n keeps l l' a b → n ≡ turns → Lives Done turns keeps l l' a b
lives_all n turns keeps l l' a b so e = record { ts = so.ts; are = so.are; ends = (so.count_is ∙ e, so.live_is, so.told_is) }

pub lives_until : (halt : Halt) (n turns : ℕ) (keeps k : Bool) (l l1 l2 : Live) (a b c : Option (List Act)) → SoFar n keeps l l1 a b → n < turns → k ≡ keeps → LiveHalts halt k l1 l2 b c
    → Lives (ended_so (Err halt)) turns keeps l l2 a c
lives_until halt n turns keeps k l l1 l2 a b c so lt ke h =
    halted halt (subst (λ (x : Live). LiveHalts halt keeps x l2 b c) so.live_is (subst (λ (x : Bool). LiveHalts halt x l1 l2 b c) ke h))
  where
    few : live_turn_count so.ts < turns
    few = subst (λ m. m < turns) (sym so.count_is) lt

    halted : (halt : Halt) → LiveHalts halt keeps (after_live_turns l so.ts) l2 b c → Lives (ended_so (Err halt)) turns keeps l l2 a c
    halted (Bad number) h = absurd h
    halted Memory h = record { ts = so.ts; are = so.are; ends = inl (few, (h.0, h.1, records_more a b c _ _ so.told_is h.2)) }
    halted Read h = record { ts = so.ts; are = so.are; ends = (few, h.0, records_more a b c _ _ so.told_is h.1) }
    halted Write h = record { ts = so.ts; are = so.are; ends = (few, h.0, (h.1.0, h.1.1, records_more a b c _ _ so.told_is h.1.2)) }
