-- The layers with given fields have these fields, and no others.
use Rattle.std.proofs.{Common.◌≡◌, Common.ℕ, Common.◌*◌, Common.refl, Math.Path.fun_ext}
use Rattle.of_layers.specs.{declared.field.Field.Field, declared.field.Field.TheVariants.InPort, Fields.row_of, Layers.cells}
use Rattle.of_headers.specs.{FieldMap.field_map, Places.width}
use Rattle.of_frames.specs.{declared.shape.Shape.Shape, declared.shape.Tagging.Tagging, declared.shape.Tagging.TheVariants.Untagged, declared.shape.Tagging.TheVariants.Tagged, Given.fields_given}
use Rattle.of_frames.specs.Packets.{layers_given, frame_size}
use Rattle.of_frames.specs.declared.shape.Shape.TheVariants as shapes

-- ---- fields, shape by shape

abbrev Had : Shape → Tagging → (Field → ℕ) → ℕ → ℕ → Field → Type 0
Had s t v port metadata f = field_map (layers_given s t v) port metadata f ≡ fields_given s t v port metadata f

bare_fields : (t : Tagging) (v : Field → ℕ) (port metadata : ℕ) (f : Field) → Had shapes.Bare t v port metadata f
unfolding row_of
bare_fields Untagged v port metadata f = elim f as (λ f. Had shapes.Bare Untagged v port metadata f) [ InPort ↦ refl | _ ↦ refl ]
bare_fields Tagged v port metadata f = elim f as (λ f. Had shapes.Bare Tagged v port metadata f) [ InPort ↦ refl | _ ↦ refl ]

arp_fields : (t : Tagging) (v : Field → ℕ) (port metadata : ℕ) (f : Field) → Had shapes.Arp t v port metadata f
unfolding row_of
arp_fields Untagged v port metadata f = elim f as (λ f. Had shapes.Arp Untagged v port metadata f) [ InPort ↦ refl | _ ↦ refl ]
arp_fields Tagged v port metadata f = elim f as (λ f. Had shapes.Arp Tagged v port metadata f) [ InPort ↦ refl | _ ↦ refl ]

ipv4_fields : (t : Tagging) (v : Field → ℕ) (port metadata : ℕ) (f : Field) → Had shapes.Ipv4 t v port metadata f
unfolding row_of
ipv4_fields Untagged v port metadata f = elim f as (λ f. Had shapes.Ipv4 Untagged v port metadata f) [ InPort ↦ refl | _ ↦ refl ]
ipv4_fields Tagged v port metadata f = elim f as (λ f. Had shapes.Ipv4 Tagged v port metadata f) [ InPort ↦ refl | _ ↦ refl ]

ipv4tcp_fields : (t : Tagging) (v : Field → ℕ) (port metadata : ℕ) (f : Field) → Had shapes.Ipv4Tcp t v port metadata f
unfolding row_of
ipv4tcp_fields Untagged v port metadata f = elim f as (λ f. Had shapes.Ipv4Tcp Untagged v port metadata f) [ InPort ↦ refl | _ ↦ refl ]
ipv4tcp_fields Tagged v port metadata f = elim f as (λ f. Had shapes.Ipv4Tcp Tagged v port metadata f) [ InPort ↦ refl | _ ↦ refl ]

ipv4udp_fields : (t : Tagging) (v : Field → ℕ) (port metadata : ℕ) (f : Field) → Had shapes.Ipv4Udp t v port metadata f
unfolding row_of
ipv4udp_fields Untagged v port metadata f = elim f as (λ f. Had shapes.Ipv4Udp Untagged v port metadata f) [ InPort ↦ refl | _ ↦ refl ]
ipv4udp_fields Tagged v port metadata f = elim f as (λ f. Had shapes.Ipv4Udp Tagged v port metadata f) [ InPort ↦ refl | _ ↦ refl ]

ipv4icmp_fields : (t : Tagging) (v : Field → ℕ) (port metadata : ℕ) (f : Field) → Had shapes.Ipv4Icmp t v port metadata f
unfolding row_of
ipv4icmp_fields Untagged v port metadata f = elim f as (λ f. Had shapes.Ipv4Icmp Untagged v port metadata f) [ InPort ↦ refl | _ ↦ refl ]
ipv4icmp_fields Tagged v port metadata f = elim f as (λ f. Had shapes.Ipv4Icmp Tagged v port metadata f) [ InPort ↦ refl | _ ↦ refl ]

ipv6_fields : (t : Tagging) (v : Field → ℕ) (port metadata : ℕ) (f : Field) → Had shapes.Ipv6 t v port metadata f
unfolding row_of
ipv6_fields Untagged v port metadata f = elim f as (λ f. Had shapes.Ipv6 Untagged v port metadata f) [ InPort ↦ refl | _ ↦ refl ]
ipv6_fields Tagged v port metadata f = elim f as (λ f. Had shapes.Ipv6 Tagged v port metadata f) [ InPort ↦ refl | _ ↦ refl ]

ipv6tcp_fields : (t : Tagging) (v : Field → ℕ) (port metadata : ℕ) (f : Field) → Had shapes.Ipv6Tcp t v port metadata f
unfolding row_of
ipv6tcp_fields Untagged v port metadata f = elim f as (λ f. Had shapes.Ipv6Tcp Untagged v port metadata f) [ InPort ↦ refl | _ ↦ refl ]
ipv6tcp_fields Tagged v port metadata f = elim f as (λ f. Had shapes.Ipv6Tcp Tagged v port metadata f) [ InPort ↦ refl | _ ↦ refl ]

ipv6udp_fields : (t : Tagging) (v : Field → ℕ) (port metadata : ℕ) (f : Field) → Had shapes.Ipv6Udp t v port metadata f
unfolding row_of
ipv6udp_fields Untagged v port metadata f = elim f as (λ f. Had shapes.Ipv6Udp Untagged v port metadata f) [ InPort ↦ refl | _ ↦ refl ]
ipv6udp_fields Tagged v port metadata f = elim f as (λ f. Had shapes.Ipv6Udp Tagged v port metadata f) [ InPort ↦ refl | _ ↦ refl ]

ipv6icmp_fields : (t : Tagging) (v : Field → ℕ) (port metadata : ℕ) (f : Field) → Had shapes.Ipv6Icmp t v port metadata f
unfolding row_of
ipv6icmp_fields Untagged v port metadata f = elim f as (λ f. Had shapes.Ipv6Icmp Untagged v port metadata f) [ InPort ↦ refl | _ ↦ refl ]
ipv6icmp_fields Tagged v port metadata f = elim f as (λ f. Had shapes.Ipv6Icmp Tagged v port metadata f) [ InPort ↦ refl | _ ↦ refl ]

fields_at : (s : Shape) (t : Tagging) (v : Field → ℕ) (port metadata : ℕ) (f : Field) → Had s t v port metadata f
fields_at shapes.Bare = bare_fields
fields_at shapes.Arp = arp_fields
fields_at shapes.Ipv4 = ipv4_fields
fields_at shapes.Ipv4Tcp = ipv4tcp_fields
fields_at shapes.Ipv4Udp = ipv4udp_fields
fields_at shapes.Ipv4Icmp = ipv4icmp_fields
fields_at shapes.Ipv6 = ipv6_fields
fields_at shapes.Ipv6Tcp = ipv6tcp_fields
fields_at shapes.Ipv6Udp = ipv6udp_fields
fields_at shapes.Ipv6Icmp = ipv6icmp_fields

pub fields_are : (s : Shape) (t : Tagging) (v : Field → ℕ) (port metadata : ℕ) → field_map (layers_given s t v) port metadata ≡ fields_given s t v port metadata
fields_are s t v port metadata = fun_ext (fields_at s t v port metadata)

-- ---- how many bits they are

pub width_is : (s : Shape) (t : Tagging) (v : Field → ℕ) → width (cells (layers_given s t v)) ≡ 8 * frame_size s t
width_is shapes.Bare Untagged v = refl
width_is shapes.Bare Tagged v = refl
width_is shapes.Arp Untagged v = refl
width_is shapes.Arp Tagged v = refl
width_is shapes.Ipv4 Untagged v = refl
width_is shapes.Ipv4 Tagged v = refl
width_is shapes.Ipv4Tcp Untagged v = refl
width_is shapes.Ipv4Tcp Tagged v = refl
width_is shapes.Ipv4Udp Untagged v = refl
width_is shapes.Ipv4Udp Tagged v = refl
width_is shapes.Ipv4Icmp Untagged v = refl
width_is shapes.Ipv4Icmp Tagged v = refl
width_is shapes.Ipv6 Untagged v = refl
width_is shapes.Ipv6 Tagged v = refl
width_is shapes.Ipv6Tcp Untagged v = refl
width_is shapes.Ipv6Tcp Tagged v = refl
width_is shapes.Ipv6Udp Untagged v = refl
width_is shapes.Ipv6Udp Tagged v = refl
width_is shapes.Ipv6Icmp Untagged v = refl
width_is shapes.Ipv6Icmp Tagged v = refl
