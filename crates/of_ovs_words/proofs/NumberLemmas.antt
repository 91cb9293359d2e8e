-- Numbers, digit by digit.
use Rattle.std.proofs.Common.{◌≡◌, ℕ, ◌+◌, ◌*◌, ◌<◌, List, refl, drop, get_or, length, add-one, drop-cons}
use Rattle.of_lines.specs.Reading.{below, ◌>>=◌}
use Rattle.of_ovs_words.specs.Numbers.{digits_in, digit_in}

pub first_digit : (base limit v i : ℕ) (ds : List ℕ) → i < length ds → digits_in base limit v (drop i ds) ≡ (digit_in base (get_or ds i 0) >>= λ d. below limit (base * v + d) >>= λ next. digits_in base limit next (drop (i + 1) ds))
first_digit base limit v i ds h = rw (add-one, drop-cons ds i 0) refl
