-- The two columns of a list of arrivals, each as numbers of one width, one after the other.
use Rattle.std.specs.Prelude.{ℕ, List, map}
use Rattle.wire.specs.Bytes.{le, joined}
use Rattle.layout.specs.Messages.{Arrival}
use Rattle.layout.specs.Encode.{arrival_signer, arrival_clock}
use Rattle.writer.specs.declared.results.Column.{Column}
use Rattle.writer.specs.declared.results.Column.TheVariants.{Signers, Clocks}

abbrev pub width : Column → ℕ
width Signers = 4
width Clocks = 8

abbrev pub column_of : Column → Arrival → ℕ
column_of Signers = arrival_signer
column_of Clocks = arrival_clock

-- numbers of w bytes each
unfoldable pub number_bytes : ℕ → List ℕ → List ℕ
number_bytes w ns = joined (map (le w) ns)

abbrev pub column_bytes : Column → List Arrival → List ℕ
column_bytes column arrivals = number_bytes (width column) (map (column_of column) arrivals)
