-- What queries ask, and what usable claims give.
pub mod QuerySizes
pub mod ClaimWords
pub mod QueryFields
pub mod QueryWords
pub mod Bounds
pub mod UsableClaims
pub mod Reservations
pub mod ReserveAnswers
pub mod RefusalNumbers
pub mod ReserveSound
pub mod ReserveRange
pub mod Examples
