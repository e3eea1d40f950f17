pub mod OwnSource
