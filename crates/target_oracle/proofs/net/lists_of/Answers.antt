use Rattle.target_oracle.proofs.Prelude.{filter}
use Rattle.target_oracle.specs.Listing.{is_first}
use Rattle.target_oracle.proofs.Listings.{list_more}
use Rattle.target_oracle.proofs.net.lists_of.Goals as goal

pub loop-v-preserved : goal.loop-v-preserved
loop-v-preserved c =
    list_more (λ v. filter (is_first c.args.lang.now v) c.args.network.now) c.loop-v.v c.loop-v.lists.items c.push.new.self.items c.in_ok-list_of.field-0
    c.in_ok-push.ensures.items c.in_ok-list_of.ensures c.loop-v.invariant
