-- What a hint says about the bytes of a line. What it says about words is only in its text.
use Rattle.std.specs.Prelude.{◌≡◌, ◌<◌, ◌==◌, ℕ, true, List, [], ◌∷◌, length, nat_eq}
use Rattle.std.specs.{List.list_any, List.starts_with, Str.IsUtf8}
use Rattle.of_hints.specs.declared.layout.LayoutFault.TheVariants.{TooLong, ByteOrderMark, NotText, CarriageReturn, Tab, Space}
use Rattle.of_hints.specs.{declared.layout.LayoutFault.LayoutFault, declared.hint.Hint.Hint}
use Rattle.of_hints.specs.declared.hint.Hint.TheVariants as hints

abbrev pub IsLayoutFault : LayoutFault → List ℕ → Type 0
IsLayoutFault TooLong line = 1048576 < length line
IsLayoutFault ByteOrderMark line = starts_with nat_eq line (239 ∷ 187 ∷ 191 ∷ []) ≡ true
IsLayoutFault NotText line = ¬ (IsUtf8 line)
IsLayoutFault CarriageReturn line = list_any (λ b. b == 13) line ≡ true
IsLayoutFault Tab line = list_any (λ b. b == 9) line ≡ true
IsLayoutFault Space line = Unit {0}

abbrev pub IsSo : Hint → List ℕ → Type 0
IsSo (hints.Layout fault) line = IsLayoutFault fault line
IsSo other line = Unit {0}
