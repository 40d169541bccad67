-- What is read is what the bits mean, and so is legal.
use Rattle.bx_encode.proofs.Framing.{frame-is}
use Rattle.bx_layout.specs.Permits.{test_of}
use Rattle.bx_decode.proofs.Reading.{stand-somewhere, means-as}
use Rattle.bx_decode.proofs.Legal.{legal}
use Rattle.bx_decode.proofs.read.decode.Goals as goal

pub read_places-requires-clause-frame : goal.read_places-requires-clause-frame
read_places-requires-clause-frame c = frame-is c.args.net.now c.args.ratio c.node_count-nodes.ensures.network c.requires.grid c.requires.nodes c.requires.area

pub read_places-requires-clause-stand : goal.read_places-requires-clause-stand
read_places-requires-clause-stand c = stand-somewhere c.args.net.now (test_of c.args.permit.now) c.args.ratio c.args.bits.now c.requires.true_bits

pub read_borders-requires : goal.read_borders-requires
read_borders-requires c = frame-is c.args.net.now c.args.ratio c.node_count-nodes.ensures.network c.requires.grid c.requires.nodes c.requires.area

pub returns-clause-means : goal.returns-clause-means
returns-clause-means c =
    means-as c.args.net.now (test_of c.args.permit.now) c.args.ratio c.args.bits.now c.new.result c.in_ok-places.places.items c.new-2.result c.in_ok-borders.borders.items
    c.requires.true_bits c.new.ensures c.new-2.ensures c.in_ok-places.ensures c.in_ok-borders.ensures

pub returns-clause-legal : goal.returns-clause-legal
returns-clause-legal c =
    legal c.args.net.now (test_of c.args.permit.now) c.args.ratio c.args.bits.now _ c.node_count-nodes.ensures.network c.requires.grid c.requires.true_bits
    (means-as c.args.net.now (test_of c.args.permit.now) c.args.ratio c.args.bits.now c.new.result c.in_ok-places.places.items c.new-2.result c.in_ok-borders.borders.items
    c.requires.true_bits c.new.ensures c.new-2.ensures c.in_ok-places.ensures c.in_ok-borders.ensures)
