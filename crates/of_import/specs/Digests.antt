-- THE DIGESTS OF FLOWS, each with a place: if no later flow has the digest of a flow, none has to be compared.
use Rattle.std.specs.Prelude.{◌≡◌, ℕ, cond, List, map, nat_eq, Some, is_some}
use Rattle.std.specs.{HashMap.HashMap, HashMap.get, List.list_any}
use Rattle.of_text.specs.{Digests.flow_digest, Views.view}
use Rattle.of_import.specs.declared.parsed_lines.FlowLine.{FlowLine}

abbrev pub digests_of : List FlowLine → List ℕ
digests_of fs = map (λ f. flow_digest (view f.flow)) fs

-- the map has these digests
abbrev pub HasDigests : {S : Type 0} → List ℕ → HashMap ℕ ℕ S → Type 0
HasDigests digests places = (q : ℕ) → is_some (get nat_eq places q) ≡ list_any (nat_eq q) digests

-- with a place for this digest
abbrev pub PutsDigest : {S : Type 0} → HashMap ℕ ℕ S → HashMap ℕ ℕ S → ℕ → ℕ → Type 0
PutsDigest old new digest place = (q : ℕ) → get nat_eq new q ≡ cond (nat_eq digest q) (Some place) (get nat_eq old q)
