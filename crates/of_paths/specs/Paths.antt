-- THE PATHS OF ALL FRAMES THAT A SWITCH RECEIVES, in classes: those of one way together, or each alone (OpenFlow 1.3.5, 5.1).
use Rattle.std.specs.Prelude.{◌≡◌, ◌<◌, ◌^◌, ℕ, ◌⊎◌, List, [], ◌∷◌, length, map, true}
use Rattle.std.specs.List.{Contains}
use Rattle.of_oxm.specs.{declared.match_field.MatchField.MatchField, Relations.matches_map}
use Rattle.of_machine.specs.TheWorld.{TheWorld}
use Rattle.of_symbolic.specs.Parts.{received_fields}
use Rattle.of_symbolic_run.specs.{declared.state.SymbolicState.SymbolicState, FrameSets.InFrames, NextStates.IsStateAfter, Received.IsReceivedAt, Received.items_at, States.items_for}
use Rattle.of_paths.specs.{declared.path.Merging.Merging, declared.path.Merging.TheVariants.Each, declared.path.Merging.TheVariants.SameWay, declared.path.Path.Path}
use Rattle.of_paths.specs.{declared.path.PathClass.PathClass, declared.path.Paths.Paths, declared.path.UndecidedFrames.UndecidedFrames, Reasons.AreMatched, Reasons.AreUndecided}
use Rattle.of_paths.specs.Ways.{AreApart, class_way, lines_at, way_of}

-- its steps and what they emit are those of a state that steps of a run lead to, whether or not a frame takes them, and that has no packets
pub record IsOfRun (w : TheWorld) (p : Path) : Type 0 where
  pub taken : ℕ
  pub state : SymbolicState
  pub reached : IsStateAfter w taken state
  pub ended : state.tasks.items ≡ []
  pub steps : p.steps.items ≡ state.steps.items
  pub emitted : p.emitted.items ≡ state.emitted.items

-- each frame of the path that is received takes its steps, and emits what they emit
pub record IsPath (w : TheWorld) (within : List MatchField) (p : Path) : Type 0 where
  pub run : IsOfRun w p
  pub matched : AreMatched w within p.frames
  pub takes : (frame : List ℕ) (port : ℕ) → IsReceivedAt w frame port → InFrames p.frames frame port → lines_at w frame port ≡ p.steps.items
  pub emits : (frame : List ℕ) (port : ℕ) → IsReceivedAt w frame port → InFrames p.frames frame port → items_at w frame port ≡ items_for w.ports p.emitted.items frame port

-- the frame is one of those of a path, of a class or of an undecided set
abbrev pub InPaths : List Path → List ℕ → ℕ → Type 0
InPaths paths frame port = (p : Path) × Contains paths p × InFrames p.frames frame port

abbrev pub InClasses : List PathClass → List ℕ → ℕ → Type 0
InClasses classes frame port = (c : PathClass) × Contains classes c × InPaths c.paths.items frame port

abbrev pub InUndecidedFrames : List UndecidedFrames → List ℕ → ℕ → Type 0
InUndecidedFrames undecided frame port = (u : UndecidedFrames) × Contains undecided u × InFrames u.frames frame port

-- the frame is one of those of the first path
abbrev pub InFirstPath : List Path → List ℕ → ℕ → Type 0
InFirstPath [] frame port = ⊥
InFirstPath (p ∷ rest) frame port = InFrames p.frames frame port

-- each of its paths is one, and has the way of the class; its frame is received and is one of the first path, and it was run; a port's number has 32 bits
pub record IsPathClass (w : TheWorld) (within : List MatchField) (c : PathClass) : Type 0 where
  pub paths : (p : Path) → Contains c.paths.items p → IsPath w within p
  pub way : (p : Path) → Contains c.paths.items p → way_of p.steps.items ≡ class_way c
  pub received : IsReceivedAt w c.frame.items c.in_port
  pub shown : InFirstPath c.paths.items c.frame.items c.in_port
  pub items : c.items.items ≡ items_at w c.frame.items c.in_port
  pub fits : c.in_port < 2 ^ 32

-- no two classes have the same way; or each class has one path
abbrev pub AreMerged : Merging → List PathClass → Type 0
AreMerged SameWay classes = AreApart (map class_way classes)
AreMerged Each classes = (c : PathClass) → Contains classes c → length c.paths.items ≡ 1

-- each class is one, their paths are merged as asked for, each undecided set is one for a reason, where the runs of all frames take so many steps together
-- and each search for a frame as many, and each frame that is received and that conditions match is in a class, or in an undecided set
pub record ArePaths (merging : Merging) (w : TheWorld) (within : List MatchField) (steps : ℕ) (found : Paths) : Type 0 where
  pub classes : (c : PathClass) → Contains found.classes.items c → IsPathClass w within c
  pub merged : AreMerged merging found.classes.items
  pub undecided : (u : UndecidedFrames) → Contains found.undecided.items u → AreUndecided w within steps u
  pub all : (frame : List ℕ) (port : ℕ) → IsReceivedAt w frame port → matches_map within (received_fields frame port) ≡ true →
      InClasses found.classes.items frame port ⊎ InUndecidedFrames found.undecided.items frame port
