-- What is pulled is true of frames.
use Rattle.std.proofs.Common.{◌≡◌, ℕ, Bool, false, List, [], ◌∷◌, Option, refl, sym, ◌∙◌, Vec, Global}
use Rattle.std.specs.Prelude.{◌&&◌}
use Rattle.of_layers.specs.{declared.field.Field.Field, Reading.layers_of}
use Rattle.of_headers.specs.FieldMap.{field_map}
use Rattle.of_oxm.specs.{declared.match_field.MatchField.MatchField, Relations.agrees, Relations.matches_map}
use Rattle.of_rewrite.{specs.Frames.IsFrame, specs.Views.IsView, specs.Views.fields_seen, specs.Views.view_of, proofs.Viewing.seen}
use Rattle.of_actions.specs.declared.action.Action.{Action}
use Rattle.of_symbolic.specs.{declared.pulling.Pulled.TheVariants.Never, declared.pulling.Pulled.TheVariants.Unknown, declared.pulling.Pulled.TheVariants.When, declared.pulling.Pulled.Pulled}
use Rattle.of_symbolic.specs.{Actions.AreRewriting, Actions.frame_of_actions, Actions.view_of_actions, InnerTags.description_of, InnerTags.inner_told, Pulling.IsPulled, Pulling.IsTrueOfFrames}
use Rattle.of_symbolic.proofs.{Rewriting.stays_frame, Rewriting.views_follow_all, Vids.frame_small}

pub same_match : (m : List MatchField) (f g : Field → Option ℕ) → ((x : Field) → f x ≡ g x) → matches_map m f ≡ matches_map m g
same_match [] f g h = refl
same_match (e ∷ m) f g h = λ j. agrees e (h e.field j) && same_match m f g h j

pub own : (frame : List ℕ) → IsView (view_of frame) frame
own frame = record { fields = λ f. refl; tags = refl; ttl = refl }

packet_seen : (l : List Action) (frame : List ℕ) (port metadata : ℕ) → IsFrame frame → AreRewriting l → (m : List MatchField) →
    matches_map m (field_map (layers_of (frame_of_actions l frame)) port metadata) ≡ matches_map m (fields_seen (view_of_actions l (view_of frame)) port metadata)
packet_seen l frame port metadata h r m = same_match m _ _ (λ f. seen (frame_of_actions l frame) (view_of_actions l (view_of frame)) port metadata f (stays_frame l frame h r) (views_follow_all l frame (view_of frame) h r (own frame)))

pub never_of_frames : (told : Bool) (l : List Action) (metadata : ℕ) (m : List MatchField) → IsPulled told l metadata m Never → AreRewriting l → (frame : List ℕ) (port : ℕ) → IsFrame frame →
    matches_map m (field_map (layers_of (frame_of_actions l frame)) port metadata) ≡ false
never_of_frames told l metadata m is r frame port h = packet_seen l frame port metadata h r m ∙ is (view_of frame) port (frame_small frame (view_of frame) h (own frame))

pub when_of_frames : (told : Bool) (l : List Action) (metadata : ℕ) (m : List MatchField) (fields : Vec MatchField Global) → IsPulled told l metadata m (When fields) → AreRewriting l → (frame : List ℕ) (port : ℕ) → IsFrame frame →
    matches_map m (field_map (layers_of (frame_of_actions l frame)) port metadata) ≡ matches_map fields.items (description_of told frame port)
when_of_frames told l metadata m fields is r frame port h =
    packet_seen l frame port metadata h r m
    ∙ is (view_of frame) port (frame_small frame (view_of frame) h (own frame))
    ∙ sym (same_match fields.items _ _ (λ f. seen frame (view_of frame) port (inner_told told (view_of frame).tags) f h (own frame)))

pub of_frames : (told : Bool) (l : List Action) (metadata : ℕ) (m : List MatchField) (pulled : Pulled) → AreRewriting l → IsPulled told l metadata m pulled → IsTrueOfFrames told l metadata m pulled
of_frames told l metadata m Never r is = never_of_frames told l metadata m is r
of_frames told l metadata m Unknown r is = tt
of_frames told l metadata m (When fields) r is = when_of_frames told l metadata m fields is r
