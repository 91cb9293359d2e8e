-- Before which moment no entry expires: inner definitions, which no public contract cites.
use Rattle.std.specs.Prelude.{◌≡◌, ◌<◌, ℕ, Bool, true, List}
use Rattle.std.specs.List.{list_all}
use Rattle.of_table.specs.{declared.entry.Entry.Entry, declared.selection.Cause.Cause, declared.selection.Cause.TheVariants.Moment, Entries.entry_of, Selecting.stays}

-- none of the entries is removed
abbrev pub all_stay : Cause → List Entry → Bool
all_stay cause entries = list_all (λ e. stays cause (entry_of e)) entries

-- no entry expires before the moment
abbrev pub NoneOver : ℕ → List Entry → Type 0
NoneOver due entries = (now : ℕ) → now < due → all_stay (Moment now) entries ≡ true
