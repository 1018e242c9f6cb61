pub mod Program
pub mod Results
pub mod Mirror
