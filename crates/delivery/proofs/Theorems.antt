-- Demand 3, of the definitions that the public promises cite. Assumes nothing.
use Rattle.delivery.specs.Statements.{Prefix, NoStarvation, Landing, Arrival, PremiseHolds, Delivery}
use Rattle.delivery.proofs.Prefix.{in_order}
use Rattle.delivery.proofs.Starve.{not-starved}
use Rattle.delivery.proofs.Landing as landing
use Rattle.delivery.proofs.Arrival as arrival
use Rattle.delivery.proofs.Premise as premise
use Rattle.delivery.proofs.Whole as whole

pub prefix : Prefix
prefix = in_order

pub no-starvation : NoStarvation
no-starvation = not-starved

pub lands : Landing
lands = landing.landing

pub arrives : Arrival
arrives = arrival.arrival

pub premise_holds : PremiseHolds
premise_holds = premise.premise_holds

pub delivered : Delivery
delivered = whole.delivery
