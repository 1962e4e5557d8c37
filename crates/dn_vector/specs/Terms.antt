-- The words of the crate that clauses cite, from one place.
pub use Rattle.dn_vector.specs.Refusal.{route_refusal}
pub use Rattle.dn_vector.specs.Route.{HasNoPlace, IsLeastVector, IsRouteLogged, IsRouteOutcome, IsRouteRefused, NoRouteAddition, NoVector, grant_of_route}
pub use Rattle.dn_vector.specs.Search.{AreTaken, IsFoundOr, IsLeastBetween, IsLeastOfBlocks, IsRouteAsked, IsVectorSought, IsVectorPlaced}
pub use Rattle.dn_vector.specs.Vectors.{has_vector, in_some_span, is_taken_vector, vector_request}
