-- How long the header is. From the laws of lines.
use mathlib.Core.Path.{◌≡◌}
use native.Mathlib.Omega.{arith}
use lib.ListN.{length}
use Rattle.text.specs.Text.{header}
use Rattle.listing.specs.Parts.{header_size}

-- the header's length
pub header_length : length header ≡ header_size
unfolding header
header_length = omega arith
