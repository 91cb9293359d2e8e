-- WHERE THE FRAMES OF A PORT GO.
use Rattle.std.specs.Prelude.{ℕ, ◌==◌, ◌&&◌, ◌||◌, not, map, Bool, true, false, List, [], ◌∷◌, ◌++◌, Option, Some, None, if◌then◌else◌}
use Rattle.std.specs.List.{find, list_any}
use Rattle.of_live.specs.{declared.network.Endpoint.Endpoint, declared.peers.Peer.Peer}

abbrev pub peer_of : ℕ → List Peer → Option Peer
peer_of number peers = find (λ p. p.port == number) peers

-- whether a datagram from there may be a frame of this port: any may, unless another address was set
abbrev pub may_be_from : Endpoint → Option Peer → Bool
may_be_from from None = true
may_be_from from (Some p) = not p.is_set || p.endpoint.address == from.address

-- to where its last datagram came from, unless that was set
abbrev pub peer_moved : ℕ → Endpoint → Peer → Peer
peer_moved number from p = if p.port == number && not p.is_set then record p { endpoint = from } else p

abbrev pub heard_from : ℕ → Endpoint → List Peer → List Peer
heard_from number from peers = if list_any (λ p. p.port == number) peers
    then map (peer_moved number from) peers
    else peers ++ record { port = number; endpoint = from; is_set = false } ∷ []
