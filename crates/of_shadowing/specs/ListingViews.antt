-- Flows of a file, apart from their layout in memory.
use Rattle.std.specs.Prelude.{map}
use Rattle.of_values.specs.Origins.{view_words}
use Rattle.of_ovs_lines.specs.PartialFlowViews.{view_word_fault}
use Rattle.of_import.specs.ParsedLinesViews.{view_faults}
use Rattle.of_shadowing.specs.Listings.{ListedContent, ListedText, Listing, Nothing, Flow, Refused}
use Rattle.of_shadowing.specs.{declared.listed_flow.ListedFlow.ListedFlow, declared.listing.ListedLine.ListedLine, declared.listing.Listing.Listing as Declared}
use Rattle.of_shadowing.specs.declared.listing.ListedLine.TheVariants as variants

abbrev pub view_flow : ListedFlow → ListedText
view_flow f = record { line = f.line; table = f.table; priority = f.priority; fields = f.fields; words = view_words f.words.items; tables = f.leads.tables.items; anywhere = f.leads.anywhere }

abbrev pub view_content : ListedLine → ListedContent
view_content variants.Nothing = Nothing
view_content (variants.Flow f) = Flow (view_flow f)
view_content (variants.Refused faults) = Refused (map view_word_fault faults.items)

abbrev pub view_listing : Declared → Listing
view_listing t = record { flows = map view_flow t.flows.items; faults = map view_faults t.faults.items }
