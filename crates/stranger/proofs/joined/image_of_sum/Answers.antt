use Rattle.stranger.proofs.Sums.{sum_image}
use Rattle.stranger.proofs.joined.image_of_sum.Goals as goal

pub returns : goal.returns
returns g c v w = let sum = sum_image _ (g.met.S.LeafKinds.lawful c.args.set.now) c.args.kind c.args.v c.args.w v w in cc
