-- WHAT A VIEW SHOWS: a text.
use Rattle.std.specs.Prelude.{ℕ, List}
use Rattle.of_history.specs.{declared.sight.Sight.Sight, declared.sight.Sight.TheVariants.OfWay, declared.sight.Sight.TheVariants.Plain}

abbrev pub sight_text : Sight → List ℕ
sight_text (Plain text) = text.items
sight_text (OfWay w) = w.text.items
