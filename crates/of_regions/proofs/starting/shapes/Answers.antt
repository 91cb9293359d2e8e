use Rattle.std.proofs.Common.{List, [], ◌∷◌, refl, arith}
use Rattle.std.specs.List.{Contains}
use Rattle.of_frames.specs.declared.shape.Shape.TheVariants.{Bare, Arp, Ipv4, Ipv4Tcp, Ipv4Udp, Ipv4Icmp, Ipv6, Ipv6Tcp, Ipv6Udp, Ipv6Icmp}
use Rattle.of_frames.specs.declared.shape.Shape.{Shape}
use Rattle.of_regions.proofs.starting.shapes.Goals as goal

abbrev said : List Shape
said = Bare ∷ Ipv6Icmp ∷ Ipv6Udp ∷ Ipv6Tcp ∷ Ipv6 ∷ Ipv4Icmp ∷ Ipv4Udp ∷ Ipv4Tcp ∷ Ipv4 ∷ Arp ∷ []

abbrev unsaid : List Shape
unsaid = Ipv6Icmp ∷ Ipv6Udp ∷ Ipv6Tcp ∷ Ipv6 ∷ Ipv4Icmp ∷ Ipv4Udp ∷ Ipv4Tcp ∷ Ipv4 ∷ Arp ∷ Bare ∷ []

all_said : (s : Shape) → Contains said s
all_said s = elim s as (λ s. Contains said s) [
  | Bare ↦ (0, omega arith, refl)
  | Ipv6Icmp ↦ (1, omega arith, refl)
  | Ipv6Udp ↦ (2, omega arith, refl)
  | Ipv6Tcp ↦ (3, omega arith, refl)
  | Ipv6 ↦ (4, omega arith, refl)
  | Ipv4Icmp ↦ (5, omega arith, refl)
  | Ipv4Udp ↦ (6, omega arith, refl)
  | Ipv4Tcp ↦ (7, omega arith, refl)
  | Ipv4 ↦ (8, omega arith, refl)
  | Arp ↦ (9, omega arith, refl)
]

all_unsaid : (s : Shape) → Contains unsaid s
all_unsaid s = elim s as (λ s. Contains unsaid s) [
  | Ipv6Icmp ↦ (0, omega arith, refl)
  | Ipv6Udp ↦ (1, omega arith, refl)
  | Ipv6Tcp ↦ (2, omega arith, refl)
  | Ipv6 ↦ (3, omega arith, refl)
  | Ipv4Icmp ↦ (4, omega arith, refl)
  | Ipv4Udp ↦ (5, omega arith, refl)
  | Ipv4Tcp ↦ (6, omega arith, refl)
  | Ipv4 ↦ (7, omega arith, refl)
  | Arp ↦ (8, omega arith, refl)
  | Bare ↦ (9, omega arith, refl)
]

pub returns-then-type_said-clause-all : goal.returns-then-type_said-clause-all
returns-then-type_said-clause-all c = all_said

pub returns-clause-all : goal.returns-clause-all
returns-clause-all c = all_unsaid
