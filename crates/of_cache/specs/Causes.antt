-- Why a row goes.
use Rattle.std.specs.Prelude.{Bool, not, ◌&&◌, List, filter}
use Rattle.of_headers.specs.FieldMap.{value}
use Rattle.of_oxm.specs.Masks.{mask_at}
use Rattle.of_cache.specs.{declared.cause.Cause.Cause, declared.cause.Cause.TheVariants.Answers, declared.cause.Cause.TheVariants.Added, Regions.AnsweredRegion, Regions.meets_seen}
use Rattle.of_cache.specs.Kept.{is_answer, is_beaten}

abbrev pub goes : Cause → AnsweredRegion → Bool
goes (Answers number) row = is_answer number row.1
goes (Added mask key priority) row = is_beaten priority row.1 && meets_seen (mask_at mask) (value key) row.0

-- the rows that stay, in order
abbrev pub staying : Cause → List AnsweredRegion → List AnsweredRegion
staying cause rows = filter (λ row. not (goes cause row)) rows
