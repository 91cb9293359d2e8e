-- Conditions that say nothing about METADATA are the same of a frame's description and of its fields.
use Rattle.std.proofs.Common.{◌≡◌, ℕ, Bool, true, false, List, [], ◌∷◌, refl, ap}
use Rattle.std.specs.{Prelude.◌&&◌, Prelude.◌||◌, List.list_any}
use Rattle.of_layers.specs.{declared.field.Field.Field, declared.field.Field.TheVariants.Metadata, Layers.Layers, Reading.layers_of}
use Rattle.of_headers.specs.FieldMap.{field_map}
use Rattle.of_oxm.specs.{declared.match_field.MatchField.MatchField, Relations.agrees, Relations.matches_map}
use Rattle.of_symbolic.specs.{InnerTags.description_of, Parts.received_fields}
use Rattle.of_symbolic_run.specs.FrameSets.{is_about_metadata, is_metadata}

at_field : (l : Layers) (port n : ℕ) (f : Field) → is_metadata f ≡ false → field_map l port n f ≡ field_map l port 0 f
at_field l port n f h = elim f as (λ f. is_metadata f ≡ false → field_map l port n f ≡ field_map l port 0 f) [
  | Metadata ↦ (λ h. absurd cc)
  | f ↦ (λ h. refl)
] h

either : (a b : Bool) → (a || b) ≡ false → (a ≡ false) × (b ≡ false)
either true b h = absurd cc
either false b h = (refl, h)

conditions_at : (l : Layers) (port n : ℕ) (m : List MatchField) → list_any is_about_metadata m ≡ false → matches_map m (field_map l port n) ≡ matches_map m (field_map l port 0)
conditions_at l port n [] h = refl
conditions_at l port n (e ∷ m) h =
    let parts = either (is_about_metadata e) (list_any is_about_metadata m) h in
    λ j. ap (agrees e) (at_field l port n e.field parts.0) j && conditions_at l port n m parts.1 j

-- as long as METADATA tells inner tags only if they say nothing about it
pub same_conditions : (told : Bool) (m : List MatchField) (frame : List ℕ) (port : ℕ) → (told ≡ true → list_any is_about_metadata m ≡ false) → matches_map m (description_of told frame port) ≡ matches_map m (received_fields frame port)
same_conditions false m frame port h = refl
same_conditions true m frame port h = conditions_at (layers_of frame) port _ m (h refl)
