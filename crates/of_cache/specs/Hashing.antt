-- What a hasher becomes that is fed bytes: a number of 128 bits is mixed in as a whole.
use Rattle.std.specs.Prelude.{ℕ, ◌==◌, if◌then◌else◌, List, length}
use Rattle.std.specs.{List.fold, Int.w128, Int.from_le_bytes}
use Rattle.of_headers.specs.{declared.mixer.Mixer.Mixer, Digest.mixed}

unfoldable pub each_written : Mixer → List ℕ → Mixer
each_written m bytes = fold mixed m bytes

abbrev pub mixer_written : Mixer → List ℕ → Mixer
mixer_written m bytes = if length bytes == 16 then mixed m (from_le_bytes w128 bytes) else each_written m bytes
