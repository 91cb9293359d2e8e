-- Why there is no frame: memory ran out, or a word is refused.
use Rattle.std.specs.Prelude.{◌≡◌, ℕ, List, Result, Err}
use Rattle.of_frame_words.specs.{declared.why.Why.Why, declared.why.Refusal.Refusal, declared.why.NoFrame.NoFrame}
use Rattle.of_frame_words.specs.{declared.why.NoFrame.TheVariants.NoMemory, declared.why.NoFrame.TheVariants.Refused, Said.WordRefusal}

abbrev pub view_word_refusal : Refusal → WordRefusal
view_word_refusal r = record { word = r.word.items; why = r.why }

abbrev pub FrameStops : {A : Type 0} → Result A WordRefusal → NoFrame → Type 0
FrameStops outcome NoMemory = Unit {0}
FrameStops outcome (Refused r) = outcome ≡ Err (view_word_refusal r)

abbrev pub IsRefusal : List ℕ → Why → NoFrame → Type 0
IsRefusal word why NoMemory = Unit {0}
IsRefusal word why (Refused r) = (r.word.items ≡ word) × (r.why ≡ why)
