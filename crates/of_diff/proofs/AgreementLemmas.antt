-- From which table on two switches do the same.
use Rattle.std.proofs.Common.{◌≡◌, ℕ, zero, suc, ◌+◌, ◌≤◌, ◌⊎◌, inl, inr, refl, ap, arith}
use Rattle.of_datapath.specs.Datapath.{Forwarding, world_of}
use Rattle.of_alike.{specs.Agreeing.AgreeFrom, specs.SameGroups.SameGroups, specs.SamePorts.SamePorts, specs.SameTables.SameTables, proofs.EmissionLemmas.same_emission, proofs.HitLemmas.same_winner}
use Rattle.of_alike.proofs.SameGroupLemmas.{same_bucket, same_chosen}
use Rattle.of_diff.{specs.Changing.entries_in, proofs.JoiningLemmas.same_flow_at}

abbrev pub TablesSayTheSame : ℕ → Forwarding → Forwarding → Type 0
TablesSayTheSame n f g = (t : ℕ) → n ≤ t → SameTables (entries_in f t) (entries_in g t)

pub agree_from : (f g : Forwarding) (n : ℕ) → SamePorts f.ports g.ports → SameGroups f.groups g.groups → TablesSayTheSame n f g → AgreeFrom n (world_of f) (world_of g)
agree_from f g n ports groups h = record {
  winner = λ t le fields. same_winner fields (entries_in f t) (entries_in g t) (h t le);
  flow = λ t place le. same_flow_at (entries_in f t) (entries_in g t) (h t le) place;
  chosen = same_chosen f.ports g.ports f.groups g.groups ports groups;
  bucket = same_bucket f.groups g.groups groups;
  emits = λ p port max_len. same_emission f.ports g.ports ports p port max_len;
}

or_more : (n t : ℕ) → n ≤ t → (n ≡ t) ⊎ (n + 1 ≤ t)
or_more zero zero le = inl refl
or_more zero (suc t) le = inr (omega arith)
or_more (suc n) zero le = absurd (omega (arith, le))
or_more (suc n) (suc t) le = elim (or_more n t (omega (arith, le))) as (λ x. (suc n ≡ suc t) ⊎ (suc n + 1 ≤ suc t)) [
  | inl same ↦ inl (ap suc same)
  | inr less ↦ inr (omega (arith, less))
]
