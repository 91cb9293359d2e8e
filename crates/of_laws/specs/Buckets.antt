-- Buckets of a group (OpenFlow 1.3.5, 7.3.4.2, struct ofp_bucket).
use Rattle.std.specs.Prelude.{◌≡◌, ℕ, ◌%◌, ◌+◌, false, List, [], ◌∷◌, ◌++◌, length, None}
use Rattle.of_actions.specs.Actions.{AreActions}
use Rattle.of_groups.specs.declared.bucket.Bucket.{Bucket}
use Rattle.of_laws.specs.{StructCells.cells_of, Cells.StructCell, Cells.Begins}
use Rattle.of_formats.specs.Tables as tables

-- the length of the whole bucket, its weight, and what it watches
abbrev pub bucket_cells : ℕ → Bucket → List StructCell
bucket_cells size b = cells_of tables.bucket (size ∷ b.weight ∷ b.watch_port ∷ b.watch_group ∷ []) []

-- the bytes begin with the bucket, its fields and its actions, and then comes the rest; its counters are 0, and its length is a multiple of 8 (else OFPGMFC_BAD_BUCKET)
pub record BeginsWithBucket (b : Bucket) (bytes rest : List ℕ) : Type 0 where
  pub actions : List ℕ
  pub front : Begins (bucket_cells (16 + length actions) b) bytes (actions ++ rest)
  pub are : AreActions false [] actions b.actions None
  pub eights : (16 + length actions) % 8 ≡ 0
  pub packets : b.packets ≡ 0
  pub bytes_used : b.bytes ≡ 0

-- bytes are these buckets, one after the other
abbrev pub AreBuckets : List Bucket → List ℕ → Type 0
AreBuckets [] bytes = bytes ≡ []
AreBuckets (b ∷ bs) bytes = (rest : List ℕ) × BeginsWithBucket b bytes rest × AreBuckets bs rest
